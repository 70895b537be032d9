use Rattle.std.{proofs.Common.{rules}, specs.Prelude.{string_bytes}}
use Rattle.hallview_pages.proofs.ages.fault_text.Goals as goal

pub returns : goal.returns
returns c = (string_bytes c.in_ok-cause.cause, search rules)
