use Rattle.desk_operations.proofs.FrameInputLemmas.{Finds}
use Rattle.desk_operations.proofs.frame_input.parse_lines.Given as goal

-- the addresses so far, and then what is left, are the lines
abbrev pub invariant-loop-at : goal.invariant-loop-at
invariant-loop-at l = Finds l.addresses.items l.lines l.at
