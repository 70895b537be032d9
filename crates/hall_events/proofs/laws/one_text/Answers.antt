use Rattle.std.proofs.Common.{ap}
use Rattle.hall_events.specs.{Command.command_text, CommandLaws.one_command}
use Rattle.hall_events.proofs.laws.one_text.Goals as goal

pub returns : goal.returns
returns c = λ x y hx hy. (one_command x y hx hy, ap command_text)
