use Rattle.ipxe_script.proofs.PurposeLemmas.{erasing, deploying}
use Rattle.ipxe_script.proofs.law.purpose_is_argument.Goals as goal

pub returns : goal.returns
returns c = record { erasing = erasing; deploying = deploying }
