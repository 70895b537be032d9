use Rattle.std.{proofs.{Common.{◌≡◌, ◌++◌, Err, Ok, rules, ap, sym, subst, ◌∙◌, List, ℕ, map, nat_cmp, string_bytes}, lemmas.List.append-nil}, specs.{List.Sorted.IsStrictlySortedBy, Cmp.Lexicographic.slice_cmp}}
use Rattle.toml.{specs.View.members_view, proofs.Views.Entry}
use Rattle.halls_file.{specs.Halls.{after, halls_of, seen}, proofs.HallLemmas.{names_rise, one_at_fault, one_more, one_name_more}}
use Rattle.halls_file.proofs.entries.entries_of.Goals as goal

pub returns-in_err-entry-clause-halls : goal.returns-in_err-entry-clause-halls
returns-in_err-entry-clause-halls c =
    let table : Entry = (c.in-Some.name.now, c.in-Some.value.now) in
    let key : c.as_str.result.now ≡ string_bytes table.0 = c.as_str.ensures.value in
    let entries = c.tables.entries.items in
    let fault = c.in_err-entry.field-0.0 in
    let is : c.from_residual.result ≡ Err fault = search rules in
    rw is (λ other. sym c.tables.invariant.0 ∙ ap (λ es. after (map seen entries) (halls_of (members_view es))) c.in-Some.ensures.steps
    ∙ one_at_fault (map seen entries) fault table c.next.new.self (rw (← key) (c.in_err-entry.ensures.hall other)))

pub tables-preserved : goal.tables-preserved
tables-preserved c =
    let inv = c.tables.invariant in
    let entries = c.tables.entries.items in
    let entry = c.in_ok-entry.entry in
    let table : Entry = (c.in-Some.name.now, c.in-Some.value.now) in
    let left = c.next.new.self in
    let key : c.as_str.result.now ≡ string_bytes table.0 = c.as_str.ensures.value in
    rw c.in_ok-push.ensures (
      one_more entries entry table left (rw (← key) c.in_ok-entry.ensures.hall) ∙ ap (λ es. after (map seen entries) (halls_of (members_view es))) (sym c.in-Some.ensures.steps) ∙ inv.0,
      one_name_more entries entry table left (c.in_ok-entry.ensures.named ∙ key) ∙ ap (λ es. map (λ entry. entry.name) entries ++ map (λ table. string_bytes table.0) es) (sym c.in-Some.ensures.steps) ∙ inv.1,
    )

pub returns-clause-halls : goal.returns-clause-halls
unfolding halls_of
returns-clause-halls c =
    sym c.tables.invariant.0 ∙ ap (λ es. after (map seen c.tables.entries.items) (halls_of (members_view es))) c.in-None.ensures.steps.0 ∙ ap Ok (append-nil _)

pub returns-clause-rising : goal.returns-clause-rising
returns-clause-rising c =
    let names = ap (λ es. map (λ entry. entry.name) c.tables.entries.items ++ map (λ table. string_bytes table.0) es) (sym c.in-None.ensures.steps.0) in
    subst (λ (names : List (List ℕ)). IsStrictlySortedBy (slice_cmp nat_cmp) names) (sym (sym (append-nil _) ∙ names ∙ c.tables.invariant.1)) (names_rise c.args.tables.now.entries c.iter-name-items.ensures.ordered)
