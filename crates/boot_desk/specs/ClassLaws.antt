-- Laws of the classes of scripts, for the proofs of callers.
use Rattle.std.{specs.Prelude.{◌≡◌, Bool, true, false, Option, Some}, proofs.Common.{refl, sym, ap, ◌∙◌}}
use Rattle.hall_types.specs.declared.{kinds.Purpose.Purpose, status.Status.{Status, TheVariants.{Commissioning, Testing, Deploying, Deployed, DiskErasing, EnteringRescue, Rescue, ExitingRescue}}}
use Rattle.boot_desk.specs.{declared.class.ScriptClass.{ScriptClass, TheVariants.Work}, Class.{class_after_rescue, class_in}}

-- the statuses in which a machine works
abbrev pub works_at : Status → Bool
works_at Commissioning = true
works_at Testing = true
works_at Deploying = true
works_at DiskErasing = true
works_at EnteringRescue = true
works_at Rescue = true
works_at other = false

abbrev pub is_work : ScriptClass → Bool
is_work (Work purpose) = true
is_work other = false

pub works_after_rescue : (back : Option Status) → is_work (class_after_rescue back) ≡ false
works_after_rescue (Some Deployed) = refl
works_after_rescue other = refl

pub works_in : (status : Status) (back : Option Status) → is_work (class_in status back) ≡ works_at status
unfolding class_in
works_in ExitingRescue back = works_after_rescue back
works_in other back = refl

pub same_purpose : (p q : Purpose) → Work p ≡ Work q → p ≡ q
same_purpose p q e = cc

-- a machine that works is in one of these statuses
pub works-status : (status : Status) (back : Option Status) (p : Purpose) → class_in status back ≡ Work p → works_at status ≡ true
works-status status back p is = sym (works_in status back) ∙ ap is_work is
