-- An entry that a command made: the command was accepted, and its operator was who may.
use Rattle.std.{proofs.{Common.{◌≡◌, ℕ, List, refl, sym, ap, ◌∙◌, inl, inr}, lemmas.Slice.Eq.bytes_eq-Decides}, specs.Prelude.{Option, Some, None, true}}
use Rattle.hall_types.specs.Rows.{at}
use Rattle.hall_events.specs.declared.command.MachineCommand.TheVariants as on
use Rattle.hall_events.specs.declared.event.Event.TheVariants as event
use Rattle.life_cycle.specs.declared.action.Action.TheVariants as act
use Rattle.hall_laws.{specs.{Prelude.{RowWrite, Erase, Machine, Operator, Content, OnMachine, MachineCommand, Event, is_owner, is_owner_in, permission_for, who_acts, Action, By, IsSound, action_of}, Step.{IsStep, Step}, Writes.{CauseOf, First, IsCommanded, IsEntering, boot_first, nothing_first, order_first}, Laws.IsByOwner, Past.IsAccepted}, proofs.{AnswerLemmas.was_accepted, MachineRows.is_changed}}

same_action : (a b : Action) → By a ≡ By b → a ≡ b
same_action a b e = cc

-- an entry by an operator's action was commanded
pub by_command : (s : Step) (e : Event) (moment : ℕ) (rows : List RowWrite) (content : Content) (x : IsEntering s.before e moment rows content) (action : Action) → x.signal ≡ By action
    → (c : IsCommanded s.before e x.machine x.entering x.signal) × (c.action ≡ action)
by_command s e moment rows content x action signal = by x.first x.cause
  where
    by : (first : First) → CauseOf s.before e moment content x.machine x.entering x.signal first → (c : IsCommanded s.before e x.machine x.entering x.signal) × (c.action ≡ action)
    by nothing_first (inl c) = (c, same_action c.action action (sym c.signal_is ∙ signal))
    by nothing_first (inr (same, inl expired)) = let e = sym expired.signal_is ∙ signal in cc
    by nothing_first (inr (same, inr fourth)) = let e = sym fourth.signal_is ∙ signal in cc
    by (boot_first b progress) cause = let e = sym cause.1 ∙ signal in cc
    by (order_first o outcome) cause = let e = sym cause.1 ∙ signal in cc

-- the command was accepted
pub accepts : (s : Step) → IsStep s → IsSound s.before → (moment : ℕ) (rows : List RowWrite) (content : Content) (x : IsEntering s.before s.arrival.event moment rows content) (id : ℕ) (m : Machine)
    → id ≡ x.machine.id → m ≡ x.new.machine → at s.after.machines id ≡ Some m → s.answer ≡ Some content
    → (c : IsCommanded s.before s.arrival.event x.machine x.entering x.signal) → IsAccepted c.operator.name c.key (OnMachine id c.version c.command) content s
accepts s step sound moment rows content x id m same its is answer c =
    was_accepted s step c.sender_is refl (record { event = c.event_is ∙ ap (λ n. event.Command c.bearer c.key (OnMachine n c.version c.command)) (sym same); answer = answer })
    (is_changed s sound s.arrival.event moment rows content x id m same its is)

owner_named : (o : Operator) (m : Machine) → is_owner o m ≡ true → m.owner ≡ Some o.name
owner_named o m = by m.owner
  where
    by : (owner : Option (List ℕ)) → is_owner_in owner o.name ≡ true → owner ≡ Some o.name
    by None is = cc
    by (Some its) is = ap (λ (x : List ℕ). Some x) ((bytes_eq-Decides its o.name).0 is)

-- by the owner, where only the owner may act so
pub by_owner : (s : Step) → IsStep s → IsSound s.before → (moment : ℕ) (rows : List RowWrite) (content : Content) (x : IsEntering s.before s.arrival.event moment rows content) (id : ℕ) (m : Machine)
    → id ≡ x.machine.id → m ≡ x.new.machine → at s.after.machines id ≡ Some m → s.answer ≡ Some content
    → (c : IsCommanded s.before s.arrival.event x.machine x.entering x.signal) (action : Action) → c.action ≡ action
    → (permission_for (who_acts action) c.operator x.machine c.member ≡ None → is_owner c.operator x.machine ≡ true) → IsByOwner id c.command s
by_owner s step sound moment rows content x id m same its is answer c action acts alone = record {
  operator = c.operator.name;
  key = c.key;
  version = c.version;
  content = content;
  accepted = accepts s step sound moment rows content x id m same its is answer c;
  machine = x.machine;
  found = ap (at s.before.machines) same ∙ x.found;
  owner = owner_named c.operator x.machine (alone (ap (λ (a : Action). permission_for (who_acts a) c.operator x.machine c.member) (sym acts) ∙ c.may));
}

-- ---- which command an action is

pub release_erasing : (command : MachineCommand) → action_of command ≡ Some act.ReleaseErasing → (kind : Erase) × (command ≡ on.Release (Some kind))
release_erasing (on.Release (Some kind)) is = (kind, refl)
release_erasing other is = cc

pub deploy : (command : MachineCommand) → action_of command ≡ Some act.Deploy → (image : List ℕ) × (command ≡ on.Deploy image)
deploy (on.Deploy image) is = (image, refl)
deploy (on.Release None) is = cc
deploy (on.Release (Some kind)) is = cc
deploy other is = cc
