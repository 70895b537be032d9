-- The orders of the life cycle's steps are of the kinds that follow from the statuses.
use Rattle.std.{specs.{Prelude.{◌≡◌, Bool, true, false, Option, None, Some}}, proofs.{Common.{refl, subst}, lemmas.Bool.false≢true}}
use Rattle.hall_types.specs.{Status.{status_number}, declared.{machine.Machine.Machine, kinds.OrderKind.{OrderKind, TheVariants.{Cycle, Off}}}}
use Rattle.life_cycle.specs.{declared.{signal.Signal.{Signal}, step.Step.Step}, Table.{step_of}, Laws.{IsRemembered}, TableLaws.{StepTest, each_step}}
use Rattle.hallview_state.specs.Orders.{order_kind}

-- whether two kinds are the same
abbrev same : OrderKind → OrderKind → Bool
same Cycle Cycle = true
same Off Off = true
same one other = false

same_is : (one other : OrderKind) → same one other ≡ true → one ≡ other
same_is Cycle Cycle is = refl
same_is Off Off is = refl
same_is Cycle Off is = absurd (false≢true is)
same_is Off Cycle is = absurd (false≢true is)

abbrev fits : StepTest
fits signal from at None = true
fits signal from at (Some kind) = same kind (order_kind at)

pub orders_follow_status : (m : Machine) (signal : Signal) (step : Step) (kind : OrderKind) → IsRemembered m.back → step_of m signal ≡ Some step → step.order ≡ Some kind → kind ≡ order_kind step.status
unfolding order_kind status_number
orders_follow_status m signal step kind remembered is queued =
    same_is kind (order_kind step.status) (subst (λ (order : Option OrderKind). fits signal m.status step.status order ≡ true) queued (each_step fits m signal step refl remembered is))
