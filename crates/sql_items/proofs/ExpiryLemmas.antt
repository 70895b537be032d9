-- What the query of the machine that expires next asks.
use Rattle.sql_schema.specs.{ValueLaws.truth, Words.{of_machines, AllByRecursion, option_to_list, is_le, is_lt, match_ordering, nat_tests, IsPermutation-refl, IsPermutation-cons, IsPermutation-sym, IsPermutation-trans, Binary, is_true, from_truth, Row, Output, IsAscending, Compare, Le, value_cmp-Int, ascending-filter, ascending_weaker, all-permutation, all_has, listed, Hall, has_come, is_due, next_expired, sooner, soonest, next_expired-is, Machine, number, or_null, machine_columns, machine_values, and_true, all_passed, IsPermutation-map, AreRising, AreRising-put_in, put_in, put_in-permutes, number_order, numbered_entries, machines, kept_row, at_most, rising, IsBefore, items_by}, AskingLaws.asks_by}
use Rattle.sql_items.{specs.{MachineStatements.{find_expired_query, find_expired_is}, MachineRows.{AsksMachine, in_row, row_values}, declared.machines.TheConstants.FIND_EXPIRED}, proofs.FindingLemmas.{in_number_order, machines_stand}}
use Rattle.std.{proofs.Common.{◌≡◌, ◌<◌, ℕ, pos, nat_le, nat_lt, int_cmp, List, [], ◌∷◌, map, filter, take, slice_get, Bool, true, false, cond, Option, Some, None, option_map, Less, Equal, Greater, refl, ap, ap₂, subst, ◌∙◌, arith, IsPermutation}, specs.Prelude.unwrap_or}
use Rattle.sqlite.specs.Ops.{binary}
use Rattle.hall_types.specs.Rows.{numbers, texts}

-- ---- machines with deadlines, in the order of these and then of their numbers

abbrev HasDeadline : Machine → Type 0
HasDeadline m = (d : ℕ) × (m.deadline ≡ Some d)

abbrev AreNumbered : List Machine → Type 0
AreNumbered = IsAscending (λ (a b : Machine). a.id < b.id)

-- what a machine is ordered by
abbrev turn : Machine → List ℕ
turn m = unwrap_or m.deadline 0 ∷ m.id ∷ []

abbrev in_turn : List Machine → List Machine
in_turn [] = []
in_turn (m ∷ ms) = put_in texts turn (in_turn ms) m

in_turn_rises : (ms : List Machine) → AreRising texts turn (in_turn ms)
in_turn_rises [] = tt
in_turn_rises (m ∷ ms) = AreRising-put_in texts turn (in_turn ms) m (in_turn_rises ms)

in_turn_permutes : (ms : List Machine) → AreNumbered ms → IsPermutation (in_turn ms) ms
in_turn_permutes [] up = IsPermutation-refl _
in_turn_permutes (m ∷ ms) up =
    let same = in_turn_permutes ms up.1 in
    let later = all-permutation (λ (x : Machine). m.id < x.id) ms (in_turn ms) (IsPermutation-sym _ _ same) up.0 in
    IsPermutation-trans _ _ _ (put_in-permutes texts turn m (in_turn ms)
    (λ x h tie. let e : x.id ≡ m.id = cc in let low = all_has (λ (z : Machine). m.id < z.id) (in_turn ms) x later h in omega (arith, e, low)))
    (IsPermutation-cons m _ _ same)

-- of two machines with deadlines the one with the higher number comes first only if its deadline is before the other's
comes_first : (d e i j : ℕ) → j < i → is_lt (texts.cmp (d ∷ i ∷ []) (e ∷ j ∷ [])) ≡ nat_lt d e
unfolding texts
comes_first d e i j low = grind (arith, nat_tests)

first_put : (m : Machine) (xs : List Machine) → HasDeadline m → AllByRecursion (λ (x : Machine). m.id < x.id) xs → AllByRecursion HasDeadline xs → slice_get (put_in texts turn xs m) 0 ≡ Some (sooner m (slice_get xs 0))
first_put m [] due later all = refl
first_put m (x ∷ xs) due later all =
    elim (texts.cmp (turn x) (turn m)) as (λ o. slice_get (match_ordering o (x ∷ put_in texts turn xs m) (m ∷ xs) (m ∷ x ∷ xs)) 0 ≡ Some (cond (is_lt o) x m))
    [ Less ↦ refl | Equal ↦ refl | Greater ↦ refl ]
    ∙ ap (λ b. Some (cond b x m)) (rw (all.0.1, due.1) (comes_first all.0.0 due.0 x.id m.id later.0))

-- the first of them is the one that expires next
first_is_soonest : (ms : List Machine) → AreNumbered ms → AllByRecursion HasDeadline ms → slice_get (in_turn ms) 0 ≡ soonest ms
first_is_soonest [] up due = refl
first_is_soonest (m ∷ ms) up due =
    let back = IsPermutation-sym _ _ (in_turn_permutes ms up.1) in
    first_put m (in_turn ms) due.0 (all-permutation (λ (x : Machine). m.id < x.id) ms (in_turn ms) back up.0) (all-permutation HasDeadline ms (in_turn ms) back due.1)
    ∙ ap (λ o. Some (sooner m o)) (first_is_soonest ms up.1 due.1)

-- ---- the query

due_has_deadline : (moment : ℕ) (m : Machine) → is_due moment m ≡ true → HasDeadline m
due_has_deadline moment m = elim m.deadline as (λ o. has_come moment o ≡ true → (d : ℕ) × (o ≡ Some d)) [ None ↦ λ h. absurd (let k = h in cc) | Some d ↦ λ h. (d, refl) ]

at_most_is : (d moment : ℕ) → is_le (int_cmp (pos d) (pos moment)) ≡ nat_le d moment
unfolding numbers
at_most_is d moment = ap is_le (number_order d moment) ∙ grind (arith, nat_tests)

due_test : (o : Option ℕ) (moment : ℕ) → is_true (binary (Compare Le Binary) (or_null number o) (number moment)) ≡ has_come moment o
unfolding binary
due_test None moment = refl
due_test (Some d) moment = rw (value_cmp-Int (pos d) (pos moment)) (truth (is_le (int_cmp (pos d) (pos moment))) ∙ at_most_is d moment)

-- what a machine with a deadline is ordered by and shown as
abbrev output_for : Machine → Output
output_for m = (map number (turn m), machine_values m)

outputs_are : (ms : List Machine) → AllByRecursion HasDeadline ms → map output_for ms ≡ map (λ (m : Machine). (or_null number m.deadline ∷ number m.id ∷ [], machine_values m)) ms
outputs_are [] due = refl
outputs_are (m ∷ ms) due = ap₂ (λ x xs. x ∷ xs) (rw due.0.1 refl) (outputs_are ms due.1)

in_order : (d e i j : ℕ) (r s : Row) → texts.cmp (d ∷ i ∷ []) (e ∷ j ∷ []) ≡ Less → IsBefore find_expired_query (number d ∷ number i ∷ [], r) (number e ∷ number j ∷ [], s)
unfolding texts numbers
in_order d e i j r s low = rw (value_cmp-Int (pos d) (pos e), number_order d e, value_cmp-Int (pos i) (pos j), number_order i j) low

one_shown : (ms : List Machine) → take 1 (map machine_values ms) ≡ map row_values (option_to_list (option_map in_row (slice_get ms 0)))
one_shown [] = refl
one_shown (m ∷ ms) = refl

pub finds_expired : (moment : ℕ) → AsksMachine FIND_EXPIRED.now (number moment ∷ []) (λ h. next_expired h moment)
finds_expired moment = record {
  asks = asks_by find_expired_is (λ db h spells rows a.
      let all = spells.hall_rows.hall.machines in
      let is = spells.tables.each of_machines in
      let due = filter (is_due moment) (listed all) in
      let has = all_passed HasDeadline (is_due moment) (due_has_deadline moment) (listed all) in
      let up = ascending-filter _ (is_due moment) (listed all) (in_number_order all is.under) in
      items_by machines.rowid machine_columns (at_most 12 0 ∷ []) (number moment ∷ []) (is_due moment) (λ m. and_true _ ∙ due_test m.deadline moment) _ 11
      machines.shown (rising 12 ∷ rising 0 ∷ [])
      (listed all) db (is.spelt ∙ ap (map (kept_row machines)) (numbered_entries machines.key_of machine_columns (db 11) all is)) refl rows a output_for (in_turn due)
      (subst (IsPermutation (map output_for (in_turn due))) (outputs_are due has) (IsPermutation-map output_for _ _ (in_turn_permutes due up)))
      (ascending_weaker _ _ (λ x y. in_order _ _ x.id y.id (machine_values x) (machine_values y)) (in_turn due) (in_turn_rises due))
      ∙ one_shown (in_turn due) ∙ ap (λ o. map row_values (option_to_list (option_map in_row o))) (first_is_soonest due up has)
      ∙ ap (λ (x : Hall). map row_values (option_to_list (option_map in_row (next_expired x moment)))) spells.agrees.hall);
  recorded = λ db h spells m is. (next_expired-is h (machines_stand db h spells) moment m is).recorded;
}
