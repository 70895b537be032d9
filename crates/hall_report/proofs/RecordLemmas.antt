-- All records of a text, as a list.
use Rattle.std.proofs.{Common.{◌≡◌, ◌≤◌, ◌<◌, ◌+◌, ◌==◌, ℕ, zero, suc, Bool, true, false, if◌then◌else◌, List, [], ◌∷◌, length, Option, Some, None, refl, sym, ap, arith, ◌∙◌}, lemmas.Bool.false≢true}
use Rattle.hall_report.specs.Prelude.{Read, after_end, ends_at_end, ends_with, field_after, fields_after, in_field, is_end, start_field, start_record, step, default_config, records, Action, State}
use Rattle.csv.specs.{Machine.next_record, Reading.{Reached, records_from}}
use Rattle.csv.specs.declared.parser.Action.TheVariants as act
use Rattle.csv.specs.declared.parser.State.TheVariants as st

-- ---- the state after a record

-- where a byte ends a record, the next one starts
abbrev Starts : State × Action → Type 0
Starts q = is_end q.1 ≡ true → ends_at_end q.0 ≡ false

either : (b : Bool) (x y : State × Action) → Starts x → Starts y → Starts (if b then x else y)
either true x y one other = one
either false x y one other = other

goes_on : (s : State) (a : Action) → is_end a ≡ false → Starts (s, a)
goes_on s a on e = absurd (false≢true (sym on ∙ e))

ended_line : (c : ℕ) → Starts (after_end default_config.terminator c, act.EndRecord)
ended_line c e =
    elim (c == 13) as (λ b. ends_at_end (if b then st.AfterCr else st.StartRecord) ≡ false) [ true ↦ refl | false ↦ refl ]

in_field_starts : (c : ℕ) → Starts (in_field default_config c)
in_field_starts c =
    either (c == 44) (st.StartField, act.EndField)
    (if ends_with default_config.terminator c then (after_end default_config.terminator c, act.EndRecord) else (st.InField, act.Copy))
    (goes_on st.StartField act.EndField refl)
    (either (ends_with default_config.terminator c) (after_end default_config.terminator c, act.EndRecord) (st.InField, act.Copy)
    (ended_line c) (goes_on st.InField act.Copy refl))

start_field_starts : (c : ℕ) → Starts (start_field default_config c)
start_field_starts c = either (c == 34) (st.InQuoted, act.Skip) (in_field default_config c) (goes_on st.InQuoted act.Skip refl) (in_field_starts c)

start_record_starts : (c : ℕ) → Starts (start_record default_config c)
start_record_starts c =
    either (ends_with default_config.terminator c) (st.StartRecord, act.Skip) (start_field default_config c)
    (goes_on st.StartRecord act.Skip refl) (start_field_starts c)

step_starts : (s : State) (c : ℕ) → Starts (step default_config s c)
step_starts st.StartRecord c = start_record_starts c
step_starts st.StartField c = start_field_starts c
step_starts st.InField c = in_field_starts c
step_starts st.InQuoted c =
    either (c == 34) (st.AfterQuote, act.Skip) (st.InQuoted, act.Copy) (goes_on st.AfterQuote act.Skip refl) (goes_on st.InQuoted act.Copy refl)
step_starts st.InEscape c = goes_on st.InQuoted act.Copy refl
step_starts st.AfterQuote c =
    either (c == 34) (st.InQuoted, act.Copy) (in_field default_config c) (goes_on st.InQuoted act.Copy refl) (in_field_starts c)
step_starts st.InComment c =
    either (c == 10) (st.StartRecord, act.Skip) (st.InComment, act.Skip) (goes_on st.StartRecord act.Skip refl) (goes_on st.InComment act.Skip refl)
step_starts st.AfterCr c =
    either (c == 10) (st.StartRecord, act.Skip) (start_record default_config c) (goes_on st.StartRecord act.Skip refl) (start_record_starts c)

-- ---- a record takes at least a byte

-- no more bytes are left, and the next record starts
abbrev Leaves : Read → ℕ → Type 0
Leaves p size = (length p.2 ≤ size) × (ends_at_end p.1 ≡ false)

at_end : (b : Bool) (q p : Read) → Leaves q 0 → (if b then Some q else None) ≡ Some p → Leaves p 0
at_end true q p left e = let same : q ≡ p = cc in rw (← same) left
at_end false q p left e = cc

at_byte : (b : Bool) (q p : Read) (next : Option Read) (size : ℕ) → (b ≡ true → Leaves q size) → (next ≡ Some p → Leaves p size)
    → (if b then Some q else next) ≡ Some p → Leaves p size
at_byte true q p next size left later e = let same : q ≡ p = cc in rw (← same) (left refl)
at_byte false q p next size left later e = later e

-- a read leaves no more bytes than it had
pub after_record : (s : State) (fields : List (List ℕ)) (field xs : List ℕ) (p : Read)
    → next_record default_config s fields field xs ≡ Some p → Leaves p (length xs)
unfolding next_record
after_record s fields field [] p e = at_end (ends_at_end s) _ p (omega arith, refl) e
after_record s fields field (c ∷ rest) p e =
    let a = (step default_config s c).1 in
    let left = at_byte (is_end a) (fields_after a fields field, (step default_config s c).0, rest) p _ (length rest)
    (λ ends. (omega arith, step_starts s c ends))
    (after_record (step default_config s c).0 (fields_after a fields field) (field_after a c field) rest p) e in
    (omega (arith, left.0), left.1)

-- and fewer, where a record starts
after_start : (s : State) (xs : List ℕ) (p : Read) → ends_at_end s ≡ false
    → next_record default_config s [] [] xs ≡ Some p → length p.2 < length xs
unfolding next_record
after_start s [] p start e = let none : None ≡ Some p = rw start at e in cc
after_start s (c ∷ rest) p start e =
    let a = (step default_config s c).1 in
    let left = at_byte (is_end a) (fields_after a [] [], (step default_config s c).0, rest) p _ (length rest)
    (λ ends. (omega arith, step_starts s c ends))
    (after_record (step default_config s c).0 (fields_after a [] []) (field_after a c []) rest p) e in
    omega (arith, left.0)

-- ---- all records

-- records from a state at which a record starts, with a bound on how many there are
all_from : (n : ℕ) (s : State) (xs : List ℕ) (rows : List (List (List ℕ))) (s2 : State) (ys : List ℕ)
    → ends_at_end s ≡ false → length xs < n → Reached default_config s xs rows s2 ys → next_record default_config s2 [] [] ys ≡ None
    → rows ≡ records_from default_config n s xs
unfolding Reached records_from
all_from zero s xs rows s2 ys start bound reached ended = absurd (omega arith)
all_from (suc n) s xs [] s2 ys start bound reached ended = rw (reached.0, reached.1, ended) refl
all_from (suc n) s xs (r ∷ rs) s2 ys start bound reached ended =
    let p = reached.0 in
    let fewer = after_start s xs p start reached.1 in
    let later = all_from n p.1 p.2 rs s2 ys (after_record s [] [] xs p reached.1).1 (omega arith) reached.3 ended in
    rw (reached.1, reached.2) (ap (λ (more : List (List (List ℕ))). p.0 ∷ more) later)

-- the records that were reached, if there is none after them, are all
pub all_records : (xs : List ℕ) (rows : List (List (List ℕ))) (s2 : State) (ys : List ℕ)
    → Reached default_config st.StartRecord xs rows s2 ys → next_record default_config s2 [] [] ys ≡ None
    → rows ≡ records default_config xs
all_records xs rows s2 ys reached ended = all_from (length xs + 1) st.StartRecord xs rows s2 ys refl (omega arith) reached ended
