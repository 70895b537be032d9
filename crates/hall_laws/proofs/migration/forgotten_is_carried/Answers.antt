use Rattle.hall_laws.proofs.Forgetting.{carried_again, carried_only}
use Rattle.hall_laws.proofs.migration.forgotten_is_carried.Goals as goal

pub returns : goal.returns
returns c = record {
  again = carried_again;
  only = λ x h y full forgotten migrated. carried_only h x y (carried_again x h full forgotten) migrated;
}
