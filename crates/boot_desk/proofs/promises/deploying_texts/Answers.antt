use Rattle.boot_desk.specs.PurposeLaws.{deploying}
use Rattle.boot_desk.proofs.promises.deploying_texts.Goals as goal

pub returns : goal.returns
returns c = deploying
