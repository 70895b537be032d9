-- What the text of a plain script has a kernel do.
use Rattle.std.{proofs.{Common.{◌≡◌, ℕ, suc, ◌+◌, ◌≤◌, true, List, [], ◌∷◌, ◌++◌, refl, sym, subst, inl, inr, arith}, lemmas.{Bool.false≢true, List.{length-map, Elements.{All-contains, All-contains_itself, All-filter, All-map, All-weaker, filter_passes}, Filters.length-filter_both}}}, specs.Prelude.{Any, Bool, false, Contains, not, filter, length, codes}}
use Rattle.ipxe_script.specs.declared.command.Command.{Command}
use Rattle.ipxe_script.specs.declared.command.Command.TheVariants as line
use Rattle.hall_types.specs.Kinds.{erase_text}
use Rattle.hall_laws.{specs.{Prelude.{HasKernelWord, IsArgument, IsDeploying, IsErasing, IsKernelWith, Any-cases, Any-here, Any-nil, Any-there, HasKernelWord-spelling, IsArgument-hall, IsLine, IsScript, spelling, IsWord, MAX_COMMANDS, MAX_WORDS, Erase, ErasesBy}, FirstSchema.{names_kind, plain, plain_command}}, proofs.Plain.is_other}

-- ---- it is a script

line_plain : (command : Command) → IsLine command → IsLine (plain_command command)
line_plain (line.Kernel uri args) is = record {
  whole = (is.whole.0, All-filter is_other IsWord args is.whole.1);
  few = few (length (filter is_other args)) (length (filter names_kind args)) (length args) (length-filter_both is_other names_kind back args) is.few;
}
  where
    back : (word : List ℕ) → names_kind word ≡ not (is_other word)
    back word = by (names_kind word)
      where
        by : (b : Bool) → b ≡ not (not b)
        by true = refl
        by false = refl

    few : (kept gone all : ℕ) → kept + gone ≡ all → suc (suc all) ≤ MAX_WORDS → suc (suc kept) ≤ MAX_WORDS
    few kept gone all is fits = omega (arith, is, fits)
line_plain other is = is

pub script_plain : (commands : List Command) → IsScript commands → IsScript (plain commands)
script_plain commands is = record {
  few = subst (λ n. n ≤ MAX_COMMANDS) (sym (length-map commands plain_command)) is.few;
  lines = All-map IsLine plain_command commands (All-weaker IsLine (λ command. IsLine (plain_command command)) line_plain commands is.lines);
}

-- ---- an argument of a plain kernel was one before, and names no kind

argument_before : (word : List ℕ) (command : Command) → IsKernelWith word (plain_command command) → IsKernelWith word command × (is_other word ≡ true)
argument_before word (line.Kernel uri args) h = (
  All-contains (Contains args) (filter is_other args) word (All-filter is_other (Contains args) args (All-contains_itself args)) h,
  All-contains (λ its. is_other its ≡ true) (filter is_other args) word (filter_passes is_other args) h,
)
argument_before word other h = absurd h

kernel_before : (word : List ℕ) (commands : List Command) → Any (IsKernelWith word) (plain commands) → Any (IsKernelWith word) commands × (is_other word ≡ true)
kernel_before word [] h = absurd (Any-nil (IsKernelWith word) h)
kernel_before word (command ∷ commands) h = elim (Any-cases (IsKernelWith word) (plain_command command) (plain commands) h) [
  | inl here ↦ let its = argument_before word command here in (Any-here (IsKernelWith word) command commands its.0, its.1)
  | inr there ↦ let its = kernel_before word commands there in (Any-there (IsKernelWith word) command commands its.0, its.1)
]

-- ---- so is a word of its text

word_before : (word : List ℕ) (commands : List Command) → IsArgument word → IsScript commands → HasKernelWord word (spelling (plain commands))
    → HasKernelWord word (spelling commands) × (is_other word ≡ true)
word_before word commands argument is h =
    let its = kernel_before word commands ((HasKernelWord-spelling word (plain commands) argument (script_plain commands is)).0 h) in
    ((HasKernelWord-spelling word commands argument is).1 its.0, its.1)

pub erasing_before : (commands : List Command) → IsScript commands → IsErasing (spelling (plain commands)) → IsErasing (spelling commands)
erasing_before commands is h = (word_before (codes "hall.purpose=erase") commands (IsArgument-hall (codes "purpose=erase")) is h).0

pub deploying_before : (commands : List Command) → IsScript commands → IsDeploying (spelling (plain commands)) → IsDeploying (spelling commands)
deploying_before commands is h = (word_before (codes "hall.purpose=deploy") commands (IsArgument-hall (codes "purpose=deploy")) is h).0

pub names_no_kind : (commands : List Command) → IsScript commands → (kind : Erase) → ErasesBy kind (plain commands) → ⊥
names_no_kind commands is kind h =
    let its = word_before (codes "hall.erase=" ++ erase_text kind) commands (IsArgument-hall (codes "erase=" ++ erase_text kind)) is h in
    false≢true its.1
