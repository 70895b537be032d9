-- The purpose that a text gives the kernel which it starts, by a word of the kernel's line.
use Rattle.std.specs.{Prelude.{◌≡◌, ℕ, Bool, true, false, List, nat_eq, bytes_eq, IsTrue, Any, Contains, codes}, List.starts_with}
use Rattle.ipxe_script.specs.{Word.is_uri, Text.{lines_in, words_in}, declared.command.Command.{Command, TheVariants.Kernel}}

-- a line that begins `kernel ` and has this word
abbrev pub IsKernelLine : List ℕ → List ℕ → Type 0
IsKernelLine word line = IsTrue (starts_with nat_eq line (codes "kernel ")) × Contains (words_in line) word

-- a text with such a line
abbrev pub HasKernelWord : List ℕ → List ℕ → Type 0
HasKernelWord word text = Any (IsKernelLine word) (lines_in text)

-- the kernel has to erase the machine's disks
abbrev pub IsErasing : List ℕ → Type 0
IsErasing text = HasKernelWord (codes "hall.purpose=erase") text

-- the kernel has to write an image to the machine's disk
abbrev pub IsDeploying : List ℕ → Type 0
IsDeploying text = HasKernelWord (codes "hall.purpose=deploy") text

-- a word that is neither `kernel` nor a URI, so that on a kernel line it is an argument
pub record IsArgument (word : List ℕ) : Type 0 where
  pub no_name : bytes_eq (codes "kernel") word ≡ false
  pub no_uri : is_uri word ≡ false

-- a command `kernel`
abbrev pub is_kernel : Command → Bool
is_kernel (Kernel uri args) = true
is_kernel _ = false

-- a command `kernel` with this argument
abbrev pub IsKernelWith : List ℕ → Command → Type 0
IsKernelWith word (Kernel uri args) = Contains args word
IsKernelWith word _ = ⊥
