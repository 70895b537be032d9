use Rattle.std.proofs.Common.{◌∙◌}
use Rattle.hall_desk.proofs.ListingLemmas.{plan_of_list}
use Rattle.hall_desk.proofs.listing.list_machines.Goals as goal

pub returns : goal.returns
returns g c clean =
    let last = c.in_ok-interfaces.ensures clean in
    let first = c.in_ok-machines.ensures last.0 in
    let one = first.1 in
    let two = last.1 in (
      first.0,
      record {
        answer = plan_of_list (g.S.HallStore.holds c.args.store.now) c.deref.result.now c.in_ok-interfaces.interfaces.items
            (λ h held. c.deref.ensures.value ∙ one.answer h held) (λ h held. two.answer h (one.same h held))
            c.machine_list_reply.result c.machine_list_reply.ensures c.said.result c.said.ensures;
        same = λ h held. two.same h (one.same h held);
        crash = λ h held hs left. two.crash h (one.same h held) hs (one.crash h held hs left);
        base = λ base over. two.base base (one.base base over);
      },
    )
