use Rattle.hall_laws.{specs.Prelude.{first, new_hall}, proofs.{FirstRuns.first_keeps_none, Forgetting.new_keeps_none}}
use Rattle.hall_laws.proofs.migration.first_halls_keep_no_kind.Goals as goal

pub returns : goal.returns
returns c = record {
  end = λ admin digest h steps run. (first_keeps_none steps (new_hall first admin digest) h (new_keeps_none admin digest) run).1;
  each = λ admin digest h steps run. (first_keeps_none steps (new_hall first admin digest) h (new_keeps_none admin digest) run).0;
}
