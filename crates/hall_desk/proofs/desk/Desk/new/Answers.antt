use Rattle.std.proofs.Common.{[], refl}
use Rattle.hall_desk.proofs.desk.Desk.new.Goals as goal

pub returns-clause-history : goal.returns-clause-history
returns-clause-history g c = λ origin h begins held. record {
  end = h;
  held = held;
  headline = c.histories_keep_the_laws.ensures origin h [] h begins refl;
}
