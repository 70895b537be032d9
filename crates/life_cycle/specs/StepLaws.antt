-- The laws of steps: which signals lead to a status and out of it, and where a step leads.
use Rattle.std.{specs.{Prelude.{◌≡◌, ◌≢◌, ◌⊎◌, ℕ, ◌==◌, ◌&&◌, ◌||◌, not, Bool, true, false, List, [], ◌∷◌, All, Option, Some, None, get_or, is_some}, List.list_all}, proofs.{Common.{refl, sym, ap, subst, ◌∙◌, inl, inr}, Math.Bool.beq, lemmas.{Bool.{and_parts, or_cases, both_ways, eqb-true, false≢true, not-true}, List.{Elements.All-weaker, Sums.AllPass-from_list_all}}}}
use Rattle.hall_types.specs.{Status.{status_number, statuses}, declared.{status.Status.{Status, TheVariants.{Deploying, Deployed, DiskErasing, FailedDiskErasing, EnteringRescue, ExitingRescue}}, machine.Machine.Machine, kinds.OrderKind.{OrderKind, TheVariants.{Cycle, Off}}}}
use Rattle.hall_types.specs.declared.kinds.Progress.TheVariants as progress
use Rattle.hall_types.specs.declared.kinds.Outcome.TheVariants as outcome
use Rattle.life_cycle.specs.declared.action.Action.TheVariants as act
use Rattle.hall_types.specs.declared.act.Act.TheVariants as does
use Rattle.life_cycle.specs.{declared.{action.Who.{Who, TheVariants.{Admin, MemberOrAdmin, Owner, OwnerOrAdmin, Nobody}}, signal.Signal.{Signal, TheVariants.{By, Report, Answer, Expired, FourthBoot}}, step.Step.Step}, Table.{Target, to, back, Transition, transitions, is_among, status_at, step_to, step_of, who_gives}, Entering.{is_origin, is_rescue, limit_of}, Laws.{IsRemembered, limited, order_into, order_with, working}, TableLaws.{is_status, is_signal, is_status-same, same_status, same_signal, each_status, led, same_step, same_back, StepTest, passes, only_if, only_if_true, each_step, each_start}}

-- ---- statuses that one signal leads to

abbrev only_way : Status → Signal → StepTest
only_way status by signal from at order = only_if (is_status at status) (is_signal signal by)

way_by : (status : Status) (by : Signal) (m : Machine) (signal : Signal) (step : Step) → list_all (passes (only_way status by)) transitions ≡ true → IsRemembered m.back → step_of m signal ≡ Some step → step.status ≡ status → signal ≡ by
way_by status by m signal step all r e is =
    same_signal signal by (only_if_true (is_status step.status status) (is_signal signal by) (each_step (only_way status by) m signal step all r e) (is_status-same step.status status is))

-- only `deploy` leads to Deploying
pub ways_to_deploying : (m : Machine) (signal : Signal) (step : Step) → IsRemembered m.back → step_of m signal ≡ Some step → step.status ≡ Deploying → signal ≡ By act.Deploy
unfolding status_number
ways_to_deploying m signal step r e is = way_by Deploying (By act.Deploy) m signal step refl r e is

-- only release with erasing leads to Disk erasing
pub ways_to_disk_erasing : (m : Machine) (signal : Signal) (step : Step) → IsRemembered m.back → step_of m signal ≡ Some step → step.status ≡ DiskErasing → signal ≡ By act.ReleaseErasing
unfolding status_number
ways_to_disk_erasing m signal step r e is = way_by DiskErasing (By act.ReleaseErasing) m signal step refl r e is

-- ---- Failed disk erasing

abbrev only_from : Status → Status → StepTest
only_from status from' signal from at order = only_if (is_status at status) (is_status from from')

-- Failed disk erasing is entered only from Disk erasing
pub ways_to_failed_disk_erasing : (m : Machine) (signal : Signal) (step : Step) → IsRemembered m.back → step_of m signal ≡ Some step → step.status ≡ FailedDiskErasing → m.status ≡ DiskErasing
unfolding status_number
ways_to_failed_disk_erasing m signal step r e is =
    same_status m.status DiskErasing (only_if_true (is_status step.status FailedDiskErasing) (is_status m.status DiskErasing) (each_step (only_from FailedDiskErasing DiskErasing) m signal step refl r e) (is_status-same step.status FailedDiskErasing is))

-- ---- into Deployed, and out of it

abbrev deployed_by : Target → Signal → Status → Bool
deployed_by (to status) signal from =
    only_if (is_status status Deployed) (is_signal signal (Report progress.Done) && is_status from Deploying)
deployed_by back signal from = is_signal signal (Answer outcome.Done) && is_status from ExitingRescue

abbrev deployed_fits : Transition → Bool
deployed_fits t = deployed_by t.target t.signal t.from

abbrev IsWay : Signal → Status → Option Status → Type 0
IsWay signal from remembered =
    ((signal ≡ Report progress.Done) × (from ≡ Deploying))
    ⊎ ((signal ≡ Answer outcome.Done) × (from ≡ ExitingRescue) × (remembered ≡ Some Deployed))

deployed_way : (target : Target) (signal : Signal) (from : Status) (remembered : Option Status) (order : Option OrderKind) (step : Step) → deployed_by target signal from ≡ true → step_to (status_at target remembered) order ≡ Some step → step.status ≡ Deployed → IsWay signal from remembered
deployed_way (to s) signal from remembered order step h e deployed =
    let is : s ≡ Deployed = (same_step s order step e).0 ∙ deployed in
    let test : (is_signal signal (Report progress.Done) && is_status from Deploying) ≡ true = only_if_true (is_status s Deployed) _ h (is_status-same s Deployed is) in
    let parts = and_parts (is_signal signal (Report progress.Done)) _ test in
    inl (same_signal signal (Report progress.Done) parts.0, same_status from Deploying parts.1)
deployed_way back signal from remembered order step h e deployed =
    let parts = and_parts (is_signal signal (Answer outcome.Done)) _ h in
    inr (same_signal signal (Answer outcome.Done) parts.0, same_status from ExitingRescue parts.1, (same_back remembered order step e).0 ∙ ap (λ (x : Status). Some x) deployed)

-- a machine becomes Deployed by the report that its deployment is done, or by the end of a rescue that began there
pub ways_to_deployed : (m : Machine) (signal : Signal) (step : Step) → step_of m signal ≡ Some step → step.status ≡ Deployed → ((signal ≡ Report progress.Done) × (m.status ≡ Deploying)) ⊎ ((signal ≡ Answer outcome.Done) × (m.status ≡ ExitingRescue) × (m.back ≡ Some Deployed))
unfolding status_number
ways_to_deployed m signal step e deployed =
    let l = led deployed_fits m signal step refl e in
    let way : IsWay l.transition.signal l.transition.from m.back = deployed_way l.transition.target l.transition.signal l.transition.from m.back l.transition.order step l.fits l.step_is deployed in
    subst (λ (x : Signal). IsWay x m.status m.back) l.signal_is (subst (λ (x : Status). IsWay l.transition.signal x m.back) l.from_is way)

abbrev leaves_deployed : Signal → Status → Bool
leaves_deployed signal from =
    only_if (is_status from Deployed) (is_signal signal (By act.Release) || (is_signal signal (By act.ReleaseErasing) || is_signal signal (By (act.Act does.Rescue))))

-- Deployed is left only by release without erasing, by release with erasing, and by rescue
pub ways_from_deployed : (m : Machine) (signal : Signal) (step : Step) → step_of m signal ≡ Some step → m.status ≡ Deployed → (signal ≡ By act.Release) ⊎ ((signal ≡ By act.ReleaseErasing) ⊎ (signal ≡ By (act.Act does.Rescue)))
unfolding status_number
ways_from_deployed m signal step e is =
    by (or_cases (is_signal signal (By act.Release)) _ (only_if_true (is_status m.status Deployed) _ (each_start leaves_deployed m signal step refl e) (is_status-same m.status Deployed is)))
  where
    by_erasing : (is_signal signal (By act.ReleaseErasing) ≡ true) ⊎ (is_signal signal (By (act.Act does.Rescue)) ≡ true) → (signal ≡ By act.ReleaseErasing) ⊎ (signal ≡ By (act.Act does.Rescue))
    by_erasing (inl t) = inl (same_signal signal (By act.ReleaseErasing) t)
    by_erasing (inr t) = inr (same_signal signal (By (act.Act does.Rescue)) t)

    by : (is_signal signal (By act.Release) ≡ true) ⊎ ((is_signal signal (By act.ReleaseErasing) || is_signal signal (By (act.Act does.Rescue))) ≡ true) → (signal ≡ By act.Release) ⊎ ((signal ≡ By act.ReleaseErasing) ⊎ (signal ≡ By (act.Act does.Rescue)))
    by (inl t) = inl (same_signal signal (By act.Release) t)
    by (inr t) = inr (by_erasing (or_cases (is_signal signal (By act.ReleaseErasing)) (is_signal signal (By (act.Act does.Rescue))) t))

-- ---- each step changes the status

abbrev changes : StepTest
changes signal from at order = not (is_status at from)

-- each step leads to another status
pub steps_change_status : (m : Machine) (signal : Signal) (step : Step) → IsRemembered m.back → step_of m signal ≡ Some step → step.status ≢ m.status
unfolding status_number
steps_change_status m signal step r e same =
    both_ways (is_status step.status m.status) (not-true (is_status step.status m.status) (each_step changes m signal step refl r e)) (is_status-same step.status m.status same)

-- ---- rescue

abbrev rescued : StepTest
rescued signal from at order = only_if (is_signal signal (By (act.Act does.Rescue))) (is_status at EnteringRescue)

-- `rescue` leads to Entering rescue
pub rescue_enters : (m : Machine) (step : Step) → IsRemembered m.back → step_of m (By (act.Act does.Rescue)) ≡ Some step → step.status ≡ EnteringRescue
unfolding status_number
rescue_enters m step r e =
    same_status step.status EnteringRescue (each_step rescued m (By (act.Act does.Rescue)) step refl r e)

abbrev into_rescue : StepTest
into_rescue signal from at order = only_if (is_rescue at) (is_rescue from || is_origin from)

-- the five statuses of a rescue are entered only from one another, from Deployed and from Broken
pub ways_to_rescue : (m : Machine) (signal : Signal) (step : Step) → IsRemembered m.back → step_of m signal ≡ Some step → is_rescue step.status ≡ true → (is_rescue m.status || is_origin m.status) ≡ true
unfolding status_number is_rescue is_origin
ways_to_rescue m signal step r e is =
    only_if_true (is_rescue step.status) (is_rescue m.status || is_origin m.status) (each_step into_rescue m signal step refl r e) is

-- the end of a rescue leads back to the status that is remembered
pub rescue_ends : (m : Machine) (step : Step) → m.status ≡ ExitingRescue → step_of m (Answer outcome.Done) ≡ Some step → m.back ≡ Some step.status
unfolding step_of status_number
rescue_ends m step is e =
    let here : step_of (record m { status = ExitingRescue }) (Answer outcome.Done) ≡ Some step = subst (λ (s : Status). step_of (record m { status = s }) (Answer outcome.Done) ≡ Some step) is e in
    (same_back m.back None step here).0

-- ---- limits and boots

same_test : (a b : Bool) → beq a b ≡ true → a ≡ b
same_test true true e = refl
same_test false false e = refl
same_test a b e = absurd (false≢true e)

abbrev limit_fits : Status → Bool
limit_fits status = beq (is_some (limit_of status)) (is_among limited status)

-- seven statuses have a limit
pub limits_of : (status : Status) → is_some (limit_of status) ≡ is_among limited status
unfolding status_number limit_of
limits_of status =
    same_test (is_some (limit_of status)) (is_among limited status) (each_status limit_fits refl status)

abbrev expiry_fits : Machine → Status → Bool
expiry_fits m status = beq (is_some (step_of (record m { status = status }) Expired)) (is_some (limit_of status))

all_expire : (m : Machine) → list_all (expiry_fits m) statuses ≡ true
unfolding step_of status_number limit_of
all_expire m = refl

-- a status is left when its deadline has come exactly if it has a limit
pub limits_expire : (m : Machine) → is_some (step_of m Expired) ≡ is_some (limit_of m.status)
limits_expire m =
    same_test (is_some (step_of m Expired)) (is_some (limit_of m.status)) (each_status (expiry_fits m) (all_expire m) m.status)

abbrev fourth_boot_fits : Machine → Status → Bool
fourth_boot_fits m status = beq (is_some (step_of (record m { status = status }) FourthBoot)) (is_among working status)

all_fourth_boots : (m : Machine) → list_all (fourth_boot_fits m) statuses ≡ true
unfolding step_of status_number
all_fourth_boots m = refl

-- a fourth boot leads to another status exactly in the statuses in which a machine boots for work that ends
pub fourth_boots : (m : Machine) → is_some (step_of m FourthBoot) ≡ is_among working m.status
fourth_boots m =
    same_test (is_some (step_of m FourthBoot)) (is_among working m.status) (each_status (fourth_boot_fits m) (all_fourth_boots m) m.status)

-- ---- orders

abbrev order_number : Option OrderKind → ℕ
order_number None = 0
order_number (Some Cycle) = 1
order_number (Some Off) = 2

abbrev order_kinds : List (Option OrderKind)
order_kinds = None ∷ Some Cycle ∷ Some Off ∷ []

order_in : (o : Option OrderKind) → get_or order_kinds (order_number o) None ≡ o
order_in (Some Cycle) = refl
order_in other = refl

same_order : (a b : Option OrderKind) → (order_number a == order_number b) ≡ true → a ≡ b
same_order a b e =
    sym (order_in a) ∙ ap (λ (n : ℕ). get_or order_kinds n None) (eqb-true (order_number a) (order_number b) e) ∙ order_in b

abbrev ordered : StepTest
ordered signal from at order = order_number order == order_number (order_with signal at)

-- which order is queued follows from the signal and the status that the step leads to
pub orders_by_target : (m : Machine) (signal : Signal) (step : Step) → IsRemembered m.back → step_of m signal ≡ Some step → step.order ≡ order_with signal step.status
unfolding order_into
orders_by_target m signal step r e =
    same_order step.order (order_with signal step.status) (each_step ordered m signal step refl r e)

-- ---- who may give a signal

abbrev who_number : Who → ℕ
who_number Admin = 0
who_number MemberOrAdmin = 1
who_number Owner = 2
who_number OwnerOrAdmin = 3
who_number Nobody = 4

abbrev whos : List Who
whos = Admin ∷ MemberOrAdmin ∷ Owner ∷ OwnerOrAdmin ∷ Nobody ∷ []

who_at : (w : Who) → get_or whos (who_number w) Nobody ≡ w
who_at Admin = refl
who_at w = refl

abbrev who_fits : Transition → Bool
who_fits t = who_number t.who == who_number (who_gives t.signal)

who_of : (t : Transition) → who_fits t ≡ true → t.who ≡ who_gives t.signal
who_of t e =
    sym (who_at t.who) ∙ ap (λ (n : ℕ). get_or whos n Nobody) (eqb-true (who_number t.who) (who_number (who_gives t.signal)) e) ∙ who_at (who_gives t.signal)

-- all lines of a signal name the same operators
pub one_who : All (λ t. t.who ≡ who_gives t.signal) transitions
unfolding who_gives
one_who =
    All-weaker (λ (t : Transition). who_fits t ≡ true) (λ (t : Transition). t.who ≡ who_gives t.signal) who_of transitions (AllPass-from_list_all who_fits transitions refl)
