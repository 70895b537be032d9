-- The machines that words of a command line name.
use Rattle.std.specs.Prelude.{ℕ, zero, suc, ◌+◌, ◌-◌, ◌==◌, nat_le, List, [], ◌∷◌, ◌++◌, length, take, drop, position, Option, Some, None, option_and_then, if◌then◌else◌}
use Rattle.hall_types.specs.Number.{number_of_text}
use Rattle.hallctl_words.specs.declared.spans.Span.{Span}
use Rattle.command_rows.specs.declared.wrong.Wrong.{Wrong}
use Rattle.command_rows.specs.declared.wrong.Wrong.TheVariants as wrong

-- the maximum of the machines that one command line names: as many as a hall has
abbrev pub max_machines : ℕ
max_machines = 10000

-- so many numbers from a first one on
abbrev pub numbers_from : ℕ → ℕ → List ℕ
numbers_from first zero = []
numbers_from first (suc count) = first ∷ numbers_from (first + 1) count

-- the numbers from a first to a last, which isn't below it
abbrev pub from_to : ℕ → ℕ → Option Span
from_to first last = if nat_le first last then Some (record { first = first; count = last - first + 1 }) else None

unfoldable pub between : List ℕ → List ℕ → Option Span
between first last = option_and_then (λ first. option_and_then (from_to first) (number_of_text last)) (number_of_text first)

-- around a hyphen, or without one
abbrev pub span_around : List ℕ → Option ℕ → Option Span
span_around text None = between text text
span_around text (Some hyphen) = between (take hyphen text) (drop (hyphen + 1) text)

-- a number, or two numbers with a hyphen between them
unfoldable pub span_in : List ℕ → Option Span
span_in text = span_around text (position (λ octet. octet == 45) text)

-- these machines and those of a span, if they aren't too many
abbrev pub with_span : List ℕ → Span → Option (List ℕ)
with_span machines span =
    if nat_le (length machines + span.count) max_machines then Some (machines ++ numbers_from span.first span.count) else None

-- these machines and those of a word
abbrev pub with_word : List ℕ → List ℕ → Option (List ℕ)
with_word machines word = option_and_then (with_span machines) (span_in word)

-- these machines and those of words
abbrev pub machines_after : List ℕ → List (List ℕ) → Option (List ℕ)
machines_after machines [] = Some machines
machines_after machines (word ∷ words) = option_and_then (λ all. machines_after all words) (with_word machines word)

-- the machines that words name, in their order
abbrev pub machines_in : List (List ℕ) → Option (List ℕ)
machines_in words = machines_after [] words

-- the fault is in the words
abbrev pub IsWordsFault : Wrong → Type 0
IsWordsFault (wrong.Text text) = Unit {0}
IsWordsFault wrong.Memory = ⊥
