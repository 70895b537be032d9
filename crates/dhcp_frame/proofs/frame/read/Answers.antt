use Rattle.std.proofs.Common.{◌∙◌}
use Rattle.dhcp_frame.proofs.FrameLemmas.{IfOk-understood, understood-from_IsFrame}
use Rattle.dhcp_frame.proofs.frame.read.Goals as goal

pub returns-clause-frame : goal.returns-clause-frame
returns-clause-frame c = IfOk-understood _ _ c.read_inner.ensures

pub returns-clause-only : goal.returns-clause-only
returns-clause-only c = λ message is. c.read_inner.ensures ∙ understood-from_IsFrame _ message is
