use Rattle.ipxe_script.proofs.PurposeLemmas.{words_inside}
use Rattle.ipxe_script.proofs.law.words_have_no_separators.Goals as goal

pub returns : goal.returns
returns c = words_inside
