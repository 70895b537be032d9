use Rattle.std.specs.Prelude.{IsTrue}
use Rattle.hallctl_tasks.specs.Exchange.{AreInVain, AreUnsent}
use Rattle.hallctl_tasks.proofs.exchanging.exchange.Given as goal

-- all tries so far had these octets, and were in vain; none had a connection, if that is said
abbrev pub invariant-tries : goal.invariant-tries
invariant-tries g l = record {
  vain : AreInVain (g.D.Dial.tries l.fn.dial) l.octets (g.D.Dial.tries l.dial);
  unsent : IsTrue l.is_unsent → AreUnsent (g.D.Dial.tries l.fn.dial) (g.D.Dial.tries l.dial);
}
