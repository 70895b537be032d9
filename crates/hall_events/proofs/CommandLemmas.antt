-- Members that are put one after another, and the text of a command.
use Rattle.std.proofs.Common.{◌≡◌, ℕ, false, List, [], ◌∷◌, ◌++◌, refl}
use Rattle.serde_json.specs.{Data.{Members, put}, Written.has_float}
use Rattle.hall_events.specs.{Object.{Member, put_all}, ObjectLaws.no_float, Command.{command_data, request_data, IsCommand}, CommandLaws.{IsPlain-command, IsPlain-request}, declared.command.HallCommand.HallCommand}

pub put_all_append : (ms more : List Member) (old : Members) → put_all (ms ++ more) old ≡ put_all more (put_all ms old)
put_all_append [] more old = refl
put_all_append (m ∷ ms) more old = put_all_append ms more (put m.0 m.1 old)

pub command_no_float : (c : HallCommand) → IsCommand c → has_float (command_data c) ≡ false
command_no_float c h = no_float (command_data c) 2 (IsPlain-command c h)

pub request_no_float : (key : List ℕ) (c : HallCommand) → IsCommand c → has_float (request_data key c) ≡ false
request_no_float key c h = no_float (request_data key c) 2 (IsPlain-request key c h)
