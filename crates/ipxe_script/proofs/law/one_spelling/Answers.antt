use Rattle.ipxe_script.proofs.{SpellingLemmas.understood-spelling, UnderstoodLemmas.{spelling-understood, one_script}}
use Rattle.ipxe_script.proofs.law.one_spelling.Goals as goal

pub returns : goal.returns
returns c = record { printed = understood-spelling; read = spelling-understood; one = one_script }
