use Rattle.std.{proofs.{Common.{◌≡◌, ap, sym, ◌∙◌, rules, refl, List, ℕ, Bool}, lemmas.{Option.{gets, slice_get_read}, Bool.eqb-true}}, specs.{Prelude.{option_map, Some, None, cond, find, ◌==◌}}}
use Rattle.hallview_state.proofs.SearchLemmas.{found_by, if_id, none_past}
use Rattle.hallview_state.specs.declared.listed.Listed.{Listed}
use Rattle.hallview_state.proofs.moves.status_in.Goals as goal

abbrev number : Listed → ℕ
number one = one.machine.id

pub returns-in_err-one-clause-found : goal.returns-in_err-one-clause-found
returns-in_err-one-clause-found c up =
    let xs = c.args.machines.now in
    let place = c.partition_point-place.result in
    let found = found_by number c.args.id xs place c.partition_point-place.ensures.partitioned (λ a r f' k. search rules) None (none_past xs place (search rules)) up in
    c.from_residual.ensures ∙ sym (ap (option_map (λ one. one.machine.status)) found)

-- the item at the place, by whether it has the number
at_place : (xs : List Listed) (id : ℕ) (one : Listed) (b : Bool) → find (λ y. number y == id) xs ≡ if_id number id (Some one) → (number one == id) ≡ b
    → option_map (λ y. y.machine.status) (find (λ y. number y == id) xs) ≡ option_map (λ y. y.machine.status) (cond b (Some one) None)
at_place xs id one b found is = ap (option_map (λ (y : Listed). y.machine.status)) (found ∙ ap (λ (its : Bool). cond its (Some one) None) is)

pub returns-then-eq-clause-found : goal.returns-then-eq-clause-found
returns-then-eq-clause-found c up =
    let xs = c.args.machines.now in
    let one = c.in_ok-one.one.now in
    let place = c.partition_point-place.result in
    let found = found_by number c.args.id xs place c.partition_point-place.ensures.partitioned (λ a r f' k. search rules) (Some one)
    (search (rules, slice_get_read, gets)) up in
    sym (at_place xs c.args.id one _ found (sym c.if-eq.ensures))

pub returns-else-eq-clause-found : goal.returns-else-eq-clause-found
returns-else-eq-clause-found c up =
    let xs = c.args.machines.now in
    let one = c.in_ok-one.one.now in
    let place = c.partition_point-place.result in
    let found = found_by number c.args.id xs place c.partition_point-place.ensures.partitioned (λ a r f' k. search rules) (Some one)
    (search (rules, slice_get_read, gets)) up in
    sym (at_place xs c.args.id one _ found (sym c.if-eq.ensures))

pub returns-then-eq-clause-has : goal.returns-then-eq-clause-has
returns-then-eq-clause-has c =
    let one = c.in_ok-one.one.now in
    (one, (c.partition_point-place.result, search rules, search rules), eqb-true one.machine.id c.args.id (sym c.if-eq.ensures), refl)
