use Rattle.std.proofs.Common.{◌<◌, ap, sym, subst, ◌∙◌}
use Rattle.hall_types.specs.Rows.{listed}
use Rattle.store_memory.{specs.Prelude.{soonest, if_due, IsEarliest, none_due, soonest_due}, proofs.{ExpiryLemmas.{earliest_empty, earliest_of}, HeldLemmas.held_earliest, TableLemmas.numbers_listed}}
use Rattle.store_memory.proofs.memory.MemoryStore.next_due.Goals as goal

pub returns-then-get-self-clause-answer : goal.returns-then-get-self-clause-answer
returns-then-get-self-clause-answer c = λ h held.
    none_due h c.args.self.now.earliest c.args.moment held.keyed.machines held.earliest (subst (λ n. n < c.args.self.now.earliest) c.get.ensures.seconds c.if-get-self.true)

pub returns-in-Some-clause-answer : goal.returns-in-Some-clause-answer
returns-in-Some-clause-answer c = λ h held.
    c.if_due.ensures
    ∙ (ap (if_due c.args.moment) (c.in-Some.ensures.soonest ∙ ap soonest (numbers_listed c.args.self.now.machines h.machines c.soonest.ensures.ordered held.machines))
    ∙ sym (soonest_due c.args.moment (listed h.machines)))

pub returns-in-Some-clause-same : goal.returns-in-Some-clause-same
returns-in-Some-clause-same c = λ h held.
    held_earliest c.args.self.now h held c.unwrap_or-self.result
    (subst (λ n. IsEarliest n h.machines) (sym c.unwrap_or-self.ensures)
    (earliest_of h c.in-Some.first _ (sym (c.in-Some.ensures.soonest ∙ ap soonest (numbers_listed c.args.self.now.machines h.machines c.soonest.ensures.ordered held.machines)))))

pub returns-in-None-clause-answer : goal.returns-in-None-clause-answer
returns-in-None-clause-answer c = λ h held.
    ap (if_due c.args.moment) (c.in-None.ensures.soonest ∙ ap soonest (numbers_listed c.args.self.now.machines h.machines c.soonest.ensures.ordered held.machines))
    ∙ sym (soonest_due c.args.moment (listed h.machines))

pub returns-in-None-clause-same : goal.returns-in-None-clause-same
returns-in-None-clause-same c = λ h held.
    held_earliest c.args.self.now h held _
    (earliest_empty h _ (sym (c.in-None.ensures.soonest ∙ ap soonest (numbers_listed c.args.self.now.machines h.machines c.soonest.ensures.ordered held.machines))))
