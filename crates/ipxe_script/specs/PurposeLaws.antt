-- Laws of kernel lines, for the proofs of callers: which words the kernel lines of a printed script have.
use Rattle.std.{proofs.{Common.{◌≡◌, ℕ, zero, suc, ◌⊎◌, true, false, List, [], ◌∷◌, ◌++◌, map, refl, sym, ap, subst, ◌∙◌, inl, inr, arith}, lemmas.{Bool.{false≢true, and_right, or_parts, both_ways}, List.Elements.recursion_from_All}}, specs.{Prelude.{◌↔◌, Any, Contains, bytes_eq, codes}, List.{AllByRecursion, list_any}}}
use Rattle.ipxe_script.specs.{Word.{is_uri, is_word}, Script.{spelling, IsWhole, IsLine, IsScript}, LineLaws.{text_of, words_in-text_of, lines_in-spelling}, Purpose.{IsKernelLine, HasKernelWord, IsArgument, is_kernel, IsKernelWith}, declared.command.Command.{Command, TheVariants.{Kernel, Initrd, Boot, Echo}}}

-- ---- some element of a list

pub Any-nil : {A : Type 0} (P : A → Type 0) → Any P [] → ⊥
Any-nil P h = omega (arith, h.2)

pub Any-here : {A : Type 0} (P : A → Type 0) (x : A) (xs : List A) → P x → Any P (x ∷ xs)
Any-here P x xs h = (0, x, omega arith, refl, h)

pub Any-there : {A : Type 0} (P : A → Type 0) (x : A) (xs : List A) → Any P xs → Any P (x ∷ xs)
Any-there P x xs h = (suc h.0, h.1, omega (arith, h.2), h.3, h.4)

pub Any-cases : {A : Type 0} (P : A → Type 0) (x : A) (xs : List A) → Any P (x ∷ xs) → P x ⊎ Any P xs
Any-cases P x xs (zero, y, lt, e, h) = inl (subst P (sym e) h)
Any-cases P x xs (suc k, y, lt, e, h) = inr (k, y, omega arith, e, h)

Contains-there : {A : Type 0} (x : A) (xs : List A) (y : A) → Contains xs y → Contains (x ∷ xs) y
Contains-there x xs y h = (suc h.0, omega (arith, h.1), h.2)

pub Contains-cases : {A : Type 0} (x : A) (xs : List A) (y : A) → Contains (x ∷ xs) y → (x ≡ y) ⊎ Contains xs y
Contains-cases x xs y (zero, lt, e) = inl e
Contains-cases x xs y (suc k, lt, e) = inr (k, omega arith, e)

-- commands without a `kernel`
no_kernel : (word : List ℕ) (commands : List Command) → list_any is_kernel commands ≡ false → Any (IsKernelWith word) commands → ⊥
no_kernel word [] none h = Any-nil (IsKernelWith word) h
no_kernel word (command ∷ commands) none h =
    let parts = or_parts (is_kernel command) (list_any is_kernel commands) none in
    elim (Any-cases (IsKernelWith word) command commands h) [
      | inl h ↦ other command parts.0 h
      | inr h ↦ no_kernel word commands parts.1 h
    ]
  where
    other : (command : Command) → is_kernel command ≡ false → IsKernelWith word command → ⊥
    other (Kernel uri args) none h = false≢true (sym none)
    other rest none h = h

-- ---- kernel lines

argument : (word uri : List ℕ) (args : List (List ℕ)) → IsArgument word → is_uri uri ≡ true → Contains (codes "kernel" ∷ uri ∷ args) word → Contains args word
argument word uri args is ok h =
    elim (Contains-cases (codes "kernel") (uri ∷ args) word h) [
      | inl e ↦ absurd (both_ways (bytes_eq (codes "kernel") word) is.no_name (sym (ap (λ (x : List ℕ). bytes_eq (codes "kernel") x) e)))
      | inr h ↦ elim (Contains-cases uri args word h) [
        | inl e ↦ absurd (both_ways (is_uri word) is.no_uri (sym (ap is_uri e) ∙ ok))
        | inr h ↦ h
      ]
    ]

-- a line of another command begins otherwise
kernel_line : (word : List ℕ) (command : Command) → IsArgument word → IsWhole command → IsKernelLine word (text_of command) → IsKernelWith word command
kernel_line word (Kernel uri args) is whole h = argument word uri args is whole.0 (subst (λ (x : List (List ℕ)). Contains x word) (words_in-text_of (Kernel uri args) whole) h.1)
kernel_line word (Echo (first ∷ words)) is whole h = absurd (false≢true h.0)
kernel_line word other is whole h = absurd (false≢true h.0)

line_of-kernel : (word : List ℕ) (command : Command) → IsWhole command → IsKernelWith word command → IsKernelLine word (text_of command)
line_of-kernel word (Kernel uri args) whole h =
    (refl, subst (λ (x : List (List ℕ)). Contains x word) (sym (words_in-text_of (Kernel uri args) whole)) (Contains-there (codes "kernel") (uri ∷ args) word (Contains-there uri args word h)))
line_of-kernel word other whole h = absurd h

-- nothing follows the last line feed
kernel_lines : (word : List ℕ) (commands : List Command) → IsArgument word → AllByRecursion IsLine commands → Any (IsKernelLine word) (map text_of commands ++ [] ∷ []) → Any (IsKernelWith word) commands
kernel_lines word [] is lines h =
    elim (Any-cases (IsKernelLine word) [] [] h) [
      | inl h ↦ absurd (false≢true h.0)
      | inr h ↦ absurd (Any-nil (IsKernelLine word) h)
    ]
kernel_lines word (command ∷ commands) is lines h =
    elim (Any-cases (IsKernelLine word) (text_of command) (map text_of commands ++ [] ∷ []) h) [
      | inl h ↦ Any-here (IsKernelWith word) command commands (kernel_line word command is lines.0.whole h)
      | inr h ↦ Any-there (IsKernelWith word) command commands (kernel_lines word commands is lines.1 h)
    ]

lines_of-kernels : (word : List ℕ) (commands : List Command) → AllByRecursion IsLine commands → Any (IsKernelWith word) commands → Any (IsKernelLine word) (map text_of commands ++ [] ∷ [])
lines_of-kernels word [] lines h = absurd (Any-nil (IsKernelWith word) h)
lines_of-kernels word (command ∷ commands) lines h =
    elim (Any-cases (IsKernelWith word) command commands h) [
      | inl h ↦ Any-here (IsKernelLine word) (text_of command) (map text_of commands ++ [] ∷ []) (line_of-kernel word command lines.0.whole h)
      | inr h ↦ Any-there (IsKernelLine word) (text_of command) (map text_of commands ++ [] ∷ []) (lines_of-kernels word commands lines.1 h)
    ]

-- a kernel line of a printed script has this word if and only if a `kernel` of the script has this argument
pub HasKernelWord-spelling : (word : List ℕ) (commands : List Command) → IsArgument word → IsScript commands → HasKernelWord word (spelling commands) ↔ Any (IsKernelWith word) commands
HasKernelWord-spelling word commands is script =
    let lines = recursion_from_All IsLine commands script.lines in
    let spelt = lines_in-spelling commands lines in (
      λ h. elim (Any-cases (IsKernelLine word) (codes "#!ipxe") (map text_of commands ++ [] ∷ []) (subst (λ (x : List (List ℕ)). Any (IsKernelLine word) x) spelt h)) [
        | inl h ↦ absurd (false≢true h.0)
        | inr h ↦ kernel_lines word commands is lines h
      ],
      λ h. subst (λ (x : List (List ℕ)). Any (IsKernelLine word) x) (sym spelt) (Any-there (IsKernelLine word) (codes "#!ipxe") (map text_of commands ++ [] ∷ []) (lines_of-kernels word commands lines h)),
    )

-- a word that begins `hall.` is neither `kernel` nor a URI
pub IsArgument-hall : (rest : List ℕ) → IsArgument (codes "hall." ++ rest)
unfolding is_uri
IsArgument-hall rest = record { no_name = refl; no_uri = and_right (is_word (codes "hall." ++ rest)) _ refl }

-- ---- the script that starts a kernel

kernel_alone : (word uri : List ℕ) (args : List (List ℕ)) (initrd : List ℕ) → Any (IsKernelWith word) (Kernel uri args ∷ Initrd initrd ∷ Boot ∷ []) ↔ Contains args word
kernel_alone word uri args initrd = (
  λ h. elim (Any-cases (IsKernelWith word) (Kernel uri args) (Initrd initrd ∷ Boot ∷ []) h) [
    | inl h ↦ h
    | inr h ↦ absurd (no_kernel word (Initrd initrd ∷ Boot ∷ []) refl h)
  ],
  λ h. Any-here (IsKernelWith word) (Kernel uri args) (Initrd initrd ∷ Boot ∷ []) h,
)

-- the same for the script of one kernel, its initrd and `boot`
pub HasKernelWord-boot : (word uri : List ℕ) (args : List (List ℕ)) (initrd : List ℕ) → IsArgument word → IsScript (Kernel uri args ∷ Initrd initrd ∷ Boot ∷ [])
    → HasKernelWord word (spelling (Kernel uri args ∷ Initrd initrd ∷ Boot ∷ [])) ↔ Contains args word
HasKernelWord-boot word uri args initrd is script =
    let printed = HasKernelWord-spelling word (Kernel uri args ∷ Initrd initrd ∷ Boot ∷ []) is script in
    let alone = kernel_alone word uri args initrd in
    (λ h. alone.0 (printed.0 h), λ h. printed.1 (alone.1 h))

-- a script without a `kernel` has no kernel line
pub HasKernelWord-no_kernel : (word : List ℕ) (commands : List Command) → IsArgument word → IsScript commands → list_any is_kernel commands ≡ false → HasKernelWord word (spelling commands) → ⊥
HasKernelWord-no_kernel word commands is script none h = no_kernel word commands none ((HasKernelWord-spelling word commands is script).0 h)
