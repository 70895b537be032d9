-- What the laws of the life cycle speak of.
use Rattle.std.specs.Prelude.{List, [], ◌∷◌, Option, Some, None, Bool, true, IsTrue}
use Rattle.hall_types.specs.declared.{status.Status.{Status, TheVariants.{Commissioning, Testing, Deploying, Releasing, DiskErasing, EnteringRescue, ExitingRescue}}, kinds.OrderKind.{OrderKind, TheVariants.{Cycle, Off}}}
use Rattle.life_cycle.specs.declared.action.Action.TheVariants as act
use Rattle.hall_types.specs.declared.act.Act.TheVariants as does
use Rattle.life_cycle.specs.{declared.signal.Signal.{Signal, TheVariants.By}, Entering.is_origin}

abbrev pub is_remembered : Option Status → Bool
is_remembered None = true
is_remembered (Some status) = is_origin status

-- the status that a machine remembers, if any, is Deployed or Broken
abbrev pub IsRemembered : Option Status → Type 0
IsRemembered back = IsTrue (is_remembered back)

-- a machine is switched off when it is to be released; it is switched off and on again to boot for its work, and
-- to leave rescue
unfoldable pub order_into : Status → Option OrderKind
order_into Commissioning = Some Cycle
order_into Testing = Some Cycle
order_into Deploying = Some Cycle
order_into DiskErasing = Some Cycle
order_into EnteringRescue = Some Cycle
order_into ExitingRescue = Some Cycle
order_into Releasing = Some Off
order_into other = None

-- after an abort the machine is switched off
abbrev pub order_with : Signal → Status → Option OrderKind
order_with (By (act.Act does.Abort)) status = Some Off
order_with other status = order_into status

-- the statuses that have a limit
abbrev pub limited : List Status
limited =
    Commissioning ∷ Testing ∷ Deploying ∷ Releasing ∷ DiskErasing ∷ EnteringRescue ∷ ExitingRescue ∷ []

-- the statuses in which a machine boots for work that ends: all that it boots for except Rescue
abbrev pub working : List Status
working = Commissioning ∷ Testing ∷ Deploying ∷ DiskErasing ∷ EnteringRescue ∷ []
