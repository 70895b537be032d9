-- What the table says of each step: what holds of each line of the table holds of each step of a machine.
use Rattle.std.{specs.{Prelude.{◌≡◌, ℕ, zero, suc, ◌==◌, ◌&&◌, Bool, true, false, List, [], ◌∷◌, Option, Some, None, get_or, unwrap_or, if◌then◌else◌, map}, List.list_all}, proofs.{Common.{refl, sym, ap, subst, ◌∙◌}, lemmas.{Bool.{and_parts, eqb-true, eq-eqb, false≢true}, Option.none-some}}}
use Rattle.hall_types.specs.{Act.acts, Status.{status_number, statuses}, declared.{status.Status.{Status, TheVariants.{New, Deployed, Broken}}, machine.Machine.Machine, kinds.OrderKind.OrderKind}}
use Rattle.hall_types.specs.declared.kinds.Progress.TheVariants as progress
use Rattle.hall_types.specs.declared.kinds.Outcome.TheVariants as outcome
use Rattle.life_cycle.specs.declared.action.Action.TheVariants as act
use Rattle.hall_types.specs.declared.act.Act.TheVariants as does
use Rattle.life_cycle.specs.{declared.{signal.Signal.{Signal, TheVariants.{By, Report, Answer, Expired, FourthBoot}}, step.Step.Step}, Table.{Target, to, back, Transition, transitions, signal_number, holds, leads, status_at, step_to, step_in, step_of}, Entering.is_origin, Laws.IsRemembered}

-- ---- numbers identify statuses and signals

abbrev pub signals : List Signal
signals =
    By act.Commission ∷ By act.Deploy ∷ By act.Release ∷ By act.ReleaseErasing
    ∷ Report progress.Started ∷ Report progress.Done ∷ Report progress.Failed ∷ Answer outcome.Done ∷ Answer outcome.Failed ∷ Expired ∷ FourthBoot
    ∷ map (λ a. By (act.Act a)) acts

status_in : (s : Status) → get_or statuses (status_number s) New ≡ s
unfolding status_number
status_in New = refl
status_in s = refl

signal_in : (s : Signal) → get_or signals (signal_number s) Expired ≡ s
signal_in (By act.Commission) = refl
signal_in (By (act.Act does.Test)) = refl
signal_in (Report progress.Started) = refl
signal_in (Answer outcome.Done) = refl
signal_in s = refl

-- whether two statuses are one
abbrev pub is_status : Status → Status → Bool
is_status a b = status_number a == status_number b

-- whether two signals are one
abbrev pub is_signal : Signal → Signal → Bool
is_signal a b = signal_number a == signal_number b

pub same_status : (a b : Status) → is_status a b ≡ true → a ≡ b
same_status a b e =
    sym (status_in a) ∙ ap (λ (n : ℕ). get_or statuses n New) (eqb-true (status_number a) (status_number b) e) ∙ status_in b

pub same_signal : (a b : Signal) → is_signal a b ≡ true → a ≡ b
same_signal a b e =
    sym (signal_in a) ∙ ap (λ (n : ℕ). get_or signals n Expired) (eqb-true (signal_number a) (signal_number b) e) ∙ signal_in b

pub is_status-same : (a b : Status) → a ≡ b → is_status a b ≡ true
is_status-same a b e = eq-eqb (status_number a) (status_number b) (ap status_number e)

-- ---- tests of all statuses and signals

all_at : {X : Type 0} (p : X → Bool) (d : X) (xs : List X) (n : ℕ) → p d ≡ true → list_all p xs ≡ true → p (get_or xs n d) ≡ true
all_at p d [] n here h = here
all_at p d (x ∷ xs) zero here h = (and_parts (p x) (list_all p xs) h).0
all_at p d (x ∷ xs) (suc n) here h = all_at p d xs n here (and_parts (p x) (list_all p xs) h).1

-- a test that all statuses in the list pass is passed by each status
pub each_status : (p : Status → Bool) → list_all p statuses ≡ true → (s : Status) → p s ≡ true
each_status p h s =
    subst (λ (x : Status). p x ≡ true) (status_in s) (all_at p New statuses (status_number s) (and_parts (p New) _ h).0 h)

-- a test that all signals in the list pass is passed by each signal
pub each_signal : (p : Signal → Bool) → list_all p signals ≡ true → (s : Signal) → p s ≡ true
each_signal p h s =
    subst (λ (x : Signal). p x ≡ true) (signal_in s) (all_at p Expired signals (signal_number s) (expired_of p h) h)
  where
    expired_of : (p : Signal → Bool) → list_all p signals ≡ true → p Expired ≡ true
    expired_of p h = all_at p (By act.Commission) signals 9 (and_parts (p (By act.Commission)) _ h).0 h

-- ---- the line of the table by which a machine takes a step

-- a line that passes a test and by which the machine takes the step
pub record Led (p : Transition → Bool) (m : Machine) (signal : Signal) (step : Step) : Type 0 where
  pub transition : Transition
  pub fits : p transition ≡ true
  pub signal_is : transition.signal ≡ signal
  pub from_is : transition.from ≡ m.status
  pub step_is : step_to (status_at transition.target m.back) transition.order ≡ Some step

led_in : (p : Transition → Bool) (ts : List Transition) (m : Machine) (signal : Signal) (step : Step) → list_all p ts ≡ true → step_in ts m signal ≡ Some step → Led p m signal step
led_in p [] m signal step h e = absurd (none-some step e)
led_in p (t ∷ ts) m signal step h e =
    by_test (leads m.status m.tests signal t) refl e (λ later. led_in p ts m signal step (and_parts (p t) (list_all p ts) h).1 later)
  where
    by_test : (b : Bool) → leads m.status m.tests signal t ≡ b → (if b then step_to (status_at t.target m.back) t.order else step_in ts m signal) ≡ Some step → (step_in ts m signal ≡ Some step → Led p m signal step) → Led p m signal step
    by_test true is e later =
        let parts = and_parts (is_signal t.signal signal && is_status t.from m.status) (holds t.condition m.tests) is in
        let same = and_parts (is_signal t.signal signal) (is_status t.from m.status) parts.0 in
        record {
          transition = t;
          fits = (and_parts (p t) (list_all p ts) h).0;
          signal_is = same_signal t.signal signal same.0;
          from_is = same_status t.from m.status same.1;
          step_is = e;
        }
    by_test false is e later = later e

-- a step is by a line of the table, which passes each test that all lines pass
pub led : (p : Transition → Bool) (m : Machine) (signal : Signal) (step : Step) → list_all p transitions ≡ true → step_of m signal ≡ Some step → Led p m signal step
unfolding step_of
led p m signal step h e = led_in p transitions m signal step h e

same_some : {X : Type 0} (x y : X) → Some x ≡ Some y → x ≡ y
same_some x y e = ap (λ o. unwrap_or o x) e

pub same_step : (s : Status) (order : Option OrderKind) (step : Step) → step_to (Some s) order ≡ Some step → (s ≡ step.status) × (order ≡ step.order)
same_step s order step e =
    let same = same_some (record { status = s; order = order }) step e in (ap (λ (x : Step). x.status) same, ap (λ (x : Step). x.order) same)

pub same_back : (remembered : Option Status) (order : Option OrderKind) (step : Step) → step_to remembered order ≡ Some step → (remembered ≡ Some step.status) × (order ≡ step.order)
same_back None order step e = absurd (none-some step e)
same_back (Some s) order step e =
    let same = same_step s order step e in (ap (λ (x : Status). Some x) same.0, same.1)

-- ---- tests of all steps

-- a test of a step: of its signal, the status before, the status after and the order that is queued
abbrev pub StepTest : Type 0
StepTest = Signal → Status → Status → Option OrderKind → Bool

abbrev pub passes_at : StepTest → Target → Transition → Bool
passes_at test (to status) t = test t.signal t.from status t.order
passes_at test back t = test t.signal t.from Deployed t.order && test t.signal t.from Broken t.order

-- whether each step by a line of the table passes a test, given that what is remembered is Deployed or Broken
abbrev pub passes : StepTest → Transition → Bool
passes test t = passes_at test t.target t

-- if the first holds, so does the second
abbrev pub only_if : Bool → Bool → Bool
only_if true b = b
only_if false b = true

pub only_if_true : (a b : Bool) → only_if a b ≡ true → a ≡ true → b ≡ true
only_if_true true b h e = h
only_if_true false b h e = absurd (false≢true e)

at_origin : (p : Status → Bool) → p Deployed ≡ true → p Broken ≡ true → (s : Status) → is_origin s ≡ true → p s ≡ true
unfolding is_origin
at_origin p deployed broken Deployed is = deployed
at_origin p deployed broken Broken is = broken
at_origin p deployed broken other is = absurd (false≢true is)

passed : (test : StepTest) (target : Target) (t : Transition) (remembered : Option Status) (step : Step) → passes_at test target t ≡ true → IsRemembered remembered → step_to (status_at target remembered) t.order ≡ Some step → test t.signal t.from step.status step.order ≡ true
passed test (to s) t remembered step h r e =
    let same = same_step s t.order step e in
    let there : test t.signal t.from step.status t.order ≡ true = subst (λ (x : Status). test t.signal t.from x t.order ≡ true) same.0 h in
    subst (λ (o : Option OrderKind). test t.signal t.from step.status o ≡ true) same.1 there
passed test back t remembered step h r e =
    let same = same_back remembered t.order step e in
    let parts = and_parts (test t.signal t.from Deployed t.order) (test t.signal t.from Broken t.order) h in
    let there : test t.signal t.from step.status t.order ≡ true = at_origin (λ (x : Status). test t.signal t.from x t.order) parts.0 parts.1 step.status (subst IsRemembered same.0 r) in
    subst (λ (o : Option OrderKind). test t.signal t.from step.status o ≡ true) same.1 there

-- a test that all lines of the table pass is passed by each step
pub each_step : (test : StepTest) (m : Machine) (signal : Signal) (step : Step) → list_all (passes test) transitions ≡ true → IsRemembered m.back → step_of m signal ≡ Some step → test signal m.status step.status step.order ≡ true
each_step test m signal step all r e =
    let l = led (passes test) m signal step all e in
    let at_line : test l.transition.signal l.transition.from step.status step.order ≡ true = passed test l.transition.target l.transition m.back step l.fits r l.step_is in
    let at_signal : test signal l.transition.from step.status step.order ≡ true = subst (λ (x : Signal). test x l.transition.from step.status step.order ≡ true) l.signal_is at_line in
    subst (λ (x : Status). test signal x step.status step.order ≡ true) l.from_is at_signal

-- a test of the signal and the status before that all lines of the table pass is passed by each step
pub each_start : (test : Signal → Status → Bool) (m : Machine) (signal : Signal) (step : Step) → list_all (λ t. test t.signal t.from) transitions ≡ true → step_of m signal ≡ Some step → test signal m.status ≡ true
each_start test m signal step all e =
    let l = led (λ (t : Transition). test t.signal t.from) m signal step all e in
    let at_signal : test signal l.transition.from ≡ true = subst (λ (x : Signal). test x l.transition.from ≡ true) l.signal_is l.fits in
    subst (λ (x : Status). test signal x ≡ true) l.from_is at_signal
