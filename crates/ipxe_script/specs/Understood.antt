-- Reading a script up to its first fault: the inverse of `spelling` as a plain program.
use Rattle.std.specs.{Prelude.{ℕ, Bool, ◌&&◌, ◌||◌, List, [], ◌∷◌, length, drop, Result, Ok, Err, MatchResult, ◌≡◌, ◌⊎◌, nat_eq, nat_lt, ◌==◌, if◌then◌else◌, bytes_eq, codes}, List.{list_any, list_all, starts_with}}
use Rattle.ipxe_script.specs.{Word.{is_word, is_uri}, Text.{lines_in, words_in}, declared.{command.{TheConstants.{MAX_COMMANDS, MAX_WORDS}, Command.{Command, TheVariants.{Kernel, Initrd, Boot, Exit, Sanboot, Echo, Poweroff}}}, fault.{WordFault.WordFault, ScriptFault.{ScriptFault, TheVariants.{NoHead, UnknownCommand, BadWord, NoFinalNewline, TooMany, Memory}}}}}
use Rattle.ipxe_script.specs.declared.fault.WordFault.TheVariants as words

-- the first fault is the result
infixl 10 ◌>>=◌
abbrev pub ◌>>=◌ : {A B : Type 0} → Result A ScriptFault → (A → Result B ScriptFault) → Result B ScriptFault
(Ok x) >>= f = f x
(Err fault) >>= f = Err fault

-- a result holds the value or the fault that reading gives, or memory ran out
abbrev pub Gives : {X Y : Type 0} → (X → Y) → Result X ScriptFault → Result Y ScriptFault → Type 0
Gives view answer reading = MatchResult answer (λ x. reading ≡ Ok (view x)) (λ fault. (fault ≡ Memory) ⊎ (reading ≡ Err fault))

-- the fault of a script that has a word with this fault
abbrev pub fault_of : WordFault → ScriptFault
fault_of words.BadWord = BadWord
fault_of words.Memory = Memory

-- ---- words

abbrev pub uri_of : List ℕ → Result (List ℕ) ScriptFault
uri_of text = if is_uri text then Ok text else Err BadWord

abbrev pub args_of : List (List ℕ) → Result (List (List ℕ)) ScriptFault
args_of texts = if list_all is_word texts then Ok texts else Err BadWord

-- ---- commands

-- a command without arguments
unfoldable pub lone_command : Command → List (List ℕ) → Result Command ScriptFault
lone_command command [] = Ok command
lone_command command (word ∷ words) = Err BadWord

unfoldable pub kernel_of : List (List ℕ) → Result Command ScriptFault
kernel_of [] = Err BadWord
kernel_of (uri ∷ args) = do
  uri ← uri_of uri
  args ← args_of args
  Ok (Kernel uri args)

unfoldable pub initrd_of : List (List ℕ) → Result Command ScriptFault
initrd_of (uri ∷ []) = do
  uri ← uri_of uri
  Ok (Initrd uri)
initrd_of words = Err BadWord

-- the arguments of `sanboot` for the first disk, which it does not describe to the operating system
abbrev pub are_sanboot_words : List ℕ → List ℕ → List ℕ → Bool
are_sanboot_words first second third =
    bytes_eq first (codes "--no-describe") && bytes_eq second (codes "--drive") && bytes_eq third (codes "0x80")

unfoldable pub sanboot_of : List (List ℕ) → Result Command ScriptFault
sanboot_of (first ∷ second ∷ third ∷ []) =
    if are_sanboot_words first second third then Ok Sanboot else Err BadWord
sanboot_of words = Err BadWord

unfoldable pub echo_of : List (List ℕ) → Result Command ScriptFault
echo_of [] = Err BadWord
echo_of (word ∷ words) = do
  words ← args_of (word ∷ words)
  Ok (Echo words)

-- the command of a line's words, of which the first is its name
unfoldable pub command_of : List (List ℕ) → Result Command ScriptFault
command_of [] = Err UnknownCommand
command_of (name ∷ words) =
    if bytes_eq name (codes "kernel") then kernel_of words
    else if bytes_eq name (codes "initrd") then initrd_of words
    else if bytes_eq name (codes "boot") then lone_command Boot words
    else if bytes_eq name (codes "exit") then lone_command Exit words
    else if bytes_eq name (codes "sanboot") then sanboot_of words
    else if bytes_eq name (codes "echo") then echo_of words
    else if bytes_eq name (codes "poweroff") then lone_command Poweroff words
    else Err UnknownCommand

-- ---- lines

unfoldable pub commands_of : List (List ℕ) → Result (List Command) ScriptFault
commands_of [] = Ok []
commands_of (line ∷ lines) = do
  command ← command_of (words_in line)
  commands ← commands_of lines
  Ok (command ∷ commands)

-- a line of more than 32 words
unfoldable pub is_long_line : List ℕ → Bool
is_long_line line = nat_lt MAX_WORDS (length (words_in line))

-- more than 32 lines, or more than 32 words on one of them
unfoldable pub are_too_many : List (List ℕ) → Bool
are_too_many lines = nat_lt MAX_COMMANDS (length lines) || list_any is_long_line lines

-- all parts but the last, which has to be empty
unfoldable pub ended_pieces : List (List ℕ) → Result (List (List ℕ)) ScriptFault
ended_pieces [] = Err NoFinalNewline
ended_pieces (piece ∷ []) = if length piece == 0 then Ok [] else Err NoFinalNewline
ended_pieces (piece ∷ next ∷ pieces) = do
  lines ← ended_pieces (next ∷ pieces)
  Ok (piece ∷ lines)

-- the lines of a text, each of which ends with a line feed
abbrev pub lines_of : List ℕ → Result (List (List ℕ)) ScriptFault
lines_of text = ended_pieces (lines_in text)

-- the text after the first line
unfoldable pub body_of : List ℕ → Result (List ℕ) ScriptFault
body_of text = if starts_with nat_eq text (codes "#!ipxe\n") then Ok (drop 7 text) else Err NoHead

-- the commands of a text, or its first fault
unfoldable pub understood : List ℕ → Result (List Command) ScriptFault
understood text = do
  body ← body_of text
  lines ← lines_of body
  if are_too_many lines then Err TooMany else commands_of lines
