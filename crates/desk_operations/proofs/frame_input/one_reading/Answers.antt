use Rattle.desk_operations.proofs.FrameInputLemmas.{IsInput-from_understood, understood-from_IsInput, IsInput-one}
use Rattle.desk_operations.proofs.frame_input.one_reading.Goals as goal

pub returns-clause-exact : goal.returns-clause-exact
returns-clause-exact c = λ input u. (understood-from_IsInput, IsInput-from_understood input u)

pub returns-clause-one : goal.returns-clause-one
returns-clause-one c = IsInput-one
