use Rattle.ipxe_script.proofs.UnderstoodLemmas.{given-script, given-only}
use Rattle.ipxe_script.proofs.reading.read.Goals as goal

pub returns-clause-script : goal.returns-clause-script
returns-clause-script c = given-script _ _ c.read_inner.ensures

pub returns-clause-only : goal.returns-clause-only
returns-clause-only c = λ commands h is. given-only _ commands _ c.read_inner.ensures h is
