use Rattle.std.proofs.Common.{sym, subst}
use Rattle.hall_desk.proofs.desk.Desk.carry_frame.Goals as goal

pub returns-clause-unlisted : goal.returns-clause-unlisted
returns-clause-unlisted g c off clean =
    let look = (c.in_ok-change.ensures.planned (c.write.ensures.carried clean).0).1 in
    let idle = c.write.ensures.idle (c.in_ok-change.ensures.unlisted off) in
    record {
      same = λ h held. subst (λ s. g.S.HallStore.holds s h) (sym idle) (look.same h held);
      stop = λ h held hs left. subst (λ s. g.S.HallStore.leaves s hs) (sym idle) (look.crash h held hs left);
      base = λ base over. (c.write.ensures.carried clean).1.base base (look.base base over);
    }
