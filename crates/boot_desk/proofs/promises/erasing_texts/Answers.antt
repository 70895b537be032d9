use Rattle.boot_desk.specs.PurposeLaws.{erasing, erasing_names, kind_kept}
use Rattle.boot_desk.proofs.promises.erasing_texts.Goals as goal

pub returns : goal.returns
returns c = record {
  status = erasing;
  kind = kind_kept;
  kept = erasing_names;
}
