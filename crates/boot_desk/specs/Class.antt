-- Which script a machine is given.
use Rattle.std.specs.Prelude.{Option, Some}
use Rattle.hall_types.specs.declared.kinds.Purpose.TheVariants as purpose
use Rattle.hall_types.specs.declared.{status.Status.{Status, TheVariants.{Commissioning, Testing, Deploying, Deployed, DiskErasing, EnteringRescue, Rescue, ExitingRescue}}, machine.Machine.Machine}
use Rattle.boot_desk.specs.declared.class.ScriptClass.{ScriptClass, TheVariants.{Local, Work, Hold}}

-- a machine whose rescue ends boots its own disk if it was Deployed before
abbrev pub class_after_rescue : Option Status → ScriptClass
class_after_rescue (Some Deployed) = Local
class_after_rescue other = Hold

-- A Deployed machine boots its own disk. A machine that is commissioned, tested, deployed, erased or rescued works
-- for that. All others are held.
unfoldable pub class_in : Status → Option Status → ScriptClass
class_in Deployed back = Local
class_in ExitingRescue back = class_after_rescue back
class_in Commissioning back = Work purpose.Commission
class_in Testing back = Work purpose.Test
class_in Deploying back = Work purpose.Deploy
class_in DiskErasing back = Work purpose.Erase
class_in EnteringRescue back = Work purpose.Rescue
class_in Rescue back = Work purpose.Rescue
class_in other back = Hold

abbrev pub class_of : Machine → ScriptClass
class_of m = class_in m.status m.back
