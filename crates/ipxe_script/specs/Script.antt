-- Scripts (https://ipxe.org/scripting): their commands, and the one spelling of them in octets.
use Rattle.std.specs.{Prelude.{⊤, ◌≡◌, ℕ, ◌<◌, ◌≤◌, ◌⊎◌, All, Any, List, [], ◌∷◌, ◌++◌, length, codes}, List.{flat_map, join_with_byte}}
use Rattle.ipxe_script.specs.{Word.{IsWord, IsUri}, Text.{line_feed, space}, declared.command.{TheConstants.{MAX_COMMANDS, MAX_WORDS}, Command.{Command, TheVariants.{Kernel, Initrd, Boot, Exit, Sanboot, Echo, Poweroff}}}}

-- the words of a command's line: its name, and then its arguments
abbrev pub words_of : Command → List (List ℕ)
words_of (Kernel uri args) = codes "kernel" ∷ uri ∷ args
words_of (Initrd uri) = codes "initrd" ∷ uri ∷ []
words_of Boot = codes "boot" ∷ []
words_of Exit = codes "exit" ∷ []
words_of Sanboot = codes "sanboot" ∷ codes "--no-describe" ∷ codes "--drive" ∷ codes "0x80" ∷ []
words_of (Echo words) = codes "echo" ∷ words
words_of Poweroff = codes "poweroff" ∷ []

-- the words separated by one space, and a line feed
abbrev pub line_of : Command → List ℕ
line_of command = join_with_byte space (words_of command) ++ line_feed ∷ []

-- the line `#!ipxe`, and then the line of each command
abbrev pub spelling : List Command → List ℕ
spelling commands = codes "#!ipxe\n" ++ flat_map line_of commands

-- an `echo` without words
abbrev pub IsBareEcho : Command → Type 0
IsBareEcho (Echo words) = length words ≡ 0
IsBareEcho _ = ⊥

-- a command's words are words, its URI is a URI, and an `echo` has at least one word
abbrev pub IsWhole : Command → Type 0
IsWhole (Kernel uri args) = IsUri uri × All IsWord args
IsWhole (Initrd uri) = IsUri uri
IsWhole (Echo words) = All IsWord words × (0 < length words)
IsWhole _ = ⊤

-- a command's line has more than 32 words
abbrev pub HasTooManyWords : Command → Type 0
HasTooManyWords command = MAX_WORDS < length (words_of command)

-- there are more than 32 commands, or more than 32 words on one line
abbrev pub HasTooMany : List Command → Type 0
HasTooMany commands = (MAX_COMMANDS < length commands) ⊎ Any HasTooManyWords commands

-- a command of a script is whole, and its line has at most 32 words, its name among them
pub record IsLine (command : Command) : Type 0 where
  pub whole : IsWhole command
  pub few : length (words_of command) ≤ MAX_WORDS

-- a script has at most 32 commands
pub record IsScript (commands : List Command) : Type 0 where
  pub few : length commands ≤ MAX_COMMANDS
  pub lines : All IsLine commands
