-- What holds of a command's decision if it holds of each way in which the decision comes out.
use Rattle.std.{specs.{Prelude.{◌≡◌, ℕ, Bool, true, false, List, [], Option, Some, None, Ok, Err, if◌then◌else◌}, Str.bytes_eq}, proofs.{Common.{refl, sym, ap, subst, ◌∙◌}, lemmas.Slice.Eq.bytes_eq-Decides}}
use Rattle.hall_types.specs.declared.act.Act.TheVariants as does
use Rattle.hall_events.specs.declared.command.MachineCommand.TheVariants as on
use Rattle.desk_command.specs.{Prelude.{Hall, pair, StandUnder, found_listed, row_cases, at, Machine, Operator, Receipt, Refusal, KeyReused, NoMachine, RoleNeeded, UnknownToken, command_text, stored, HallCommand, MachineCommand}, AllowedLaws.{IsAllowed, allowed, may_act}, Causes.{action_of, causes, causes_at, command_view, first_of, forbidden, machine_view, machine_view_if}, Command.{command_decision, commanded, keyed, may_send, needs_admin, of_sender, sender, unless, with_receipt}, Effect.{Effect, effect, machine_effect, machine_effect_if}}

-- ---- a command that isn't refused on a machine

-- the machine of a command's view
view_machine : (h : Hall) (o : Operator) (m : Machine) (command : MachineCommand) → (machine_view h o m command).machine ≡ Some m
view_machine h o m (on.Release None) = refl
view_machine h o m (on.Release (Some erase)) = refl
view_machine h o m (on.Act does.Test) = refl
view_machine h o m other = refl

-- the machine is recorded, and its operator may command it
pub machine_cases : (h : Hall) → StandUnder (λ (m : Machine). m.id) h.machines → (o : Operator) (id : ℕ) (version : Option ℕ) (command : MachineCommand) (moment : ℕ) (P : Effect → Type 0) → P (Err NoMachine)
    → ((m : Machine) → m.id ≡ id → at h.machines m.id ≡ Some m → IsAllowed (machine_view h o m command) m command → forbidden o m (machine_view h o m command).is_member (action_of command) ≡ None
    → P (machine_effect (machine_view h o m command) o m command moment))
    → first_of (causes_at (machine_view_if h o (at h.machines id) command).machine (machine_view_if h o (at h.machines id) command) o version command) ≡ None
    → P (machine_effect_if (machine_view_if h o (at h.machines id) command).machine (machine_view_if h o (at h.machines id) command) o command moment)
machine_cases h under o id version command moment P missing each =
    row_cases (λ (m : Machine). m.id) h.machines under id
    (λ x. first_of (causes_at (machine_view_if h o x command).machine (machine_view_if h o x command) o version command) ≡ None
    → P (machine_effect_if (machine_view_if h o x command).machine (machine_view_if h o x command) o command moment))
    (λ none. missing)
    (λ m its was none.
    let view = view_machine h o m command in
    let none_at = ap (λ x. first_of (causes_at x (machine_view h o m command) o version command)) (sym view) ∙ none in
    subst (λ x. P (machine_effect_if x (machine_view h o m command) o command moment)) (sym view)
    (each m its was (allowed (machine_view h o m command) m o version command none_at) (may_act (machine_view h o m command) m o version command none_at)))

-- ---- a request with a command

-- its sender is recorded
pub sender_is : (h : Hall) → StandUnder (λ (o : Operator). o.name) h.operators → (bearer : Option (List ℕ)) (o : Operator) → sender h bearer ≡ Some o → at h.operators o.name ≡ Some o
sender_is h under None o is = cc
sender_is h under (Some digest) o is = (found_listed (λ (x : Operator). x.name) h.operators under (λ (x : Operator). bytes_eq x.digest digest) o is).0

-- it is refused, or it came before, or it is carried out
module _ (h : Hall) (bearer : Option (List ℕ)) (key : List ℕ) (command : HallCommand) (moment : ℕ) (P : Effect → Type 0)
    (refused : (refusal : Refusal) → P (Err refusal))
    (again : (o : Operator) (r : Receipt) → sender h bearer ≡ Some o → at h.receipts (pair o.name key) ≡ Some r → r.command ≡ command_text command → P (Ok ([], stored r.status r.body)))
    (new : (o : Operator) → sender h bearer ≡ Some o → o.enabled ≡ true → at h.receipts (pair o.name key) ≡ None → first_of (causes (command_view h o command) o command) ≡ None
    → P (with_receipt o key command (effect (command_view h o command) o command moment))) where
  module _ (o : Operator) (sent : sender h bearer ≡ Some o) (enabled : o.enabled ≡ true) where
    by_cause : at h.receipts (pair o.name key) ≡ None → (c : Option Refusal) → first_of (causes (command_view h o command) o command) ≡ c
        → P (unless c (with_receipt o key command (effect (command_view h o command) o command moment)))
    by_cause free (Some refusal) is = refused refusal
    by_cause free None is = new o sent enabled free is

    by_role : at h.receipts (pair o.name key) ≡ None → (b : Bool) → P (if b then commanded (command_view h o command) o key command moment else Err RoleNeeded)
    unfolding commanded
    by_role free true = by_cause free (first_of (causes (command_view h o command) o command)) refl
    by_role free false = refused RoleNeeded

    by_text : (r : Receipt) → at h.receipts (pair o.name key) ≡ Some r → (b : Bool) → bytes_eq r.command (command_text command) ≡ b → P (if b then Ok ([], stored r.status r.body) else Err KeyReused)
    by_text r there true same = again o r sent there ((bytes_eq-Decides r.command (command_text command)).0 same)
    by_text r there false same = refused KeyReused

    by_receipt : (r : Option Receipt) → at h.receipts (pair o.name key) ≡ r → P (keyed h o r key command moment)
    by_receipt (Some r) there = by_text r there (bytes_eq r.command (command_text command)) refl
    by_receipt None there = by_role there (may_send o.role (needs_admin command))

  by_enabled : (o : Operator) → sender h bearer ≡ Some o → (b : Bool) → o.enabled ≡ b → P (if b then keyed h o (at h.receipts (pair o.name key)) key command moment else Err UnknownToken)
  by_enabled o sent true enabled = by_receipt o sent enabled (at h.receipts (pair o.name key)) refl
  by_enabled o sent false enabled = refused UnknownToken

  by_sender : (o : Option Operator) → sender h bearer ≡ o → P (of_sender h o key command moment)
  by_sender None sent = refused UnknownToken
  by_sender (Some o) sent = by_enabled o sent o.enabled refl

  pub command_cases : P (command_decision h bearer key command moment)
  unfolding command_decision
  command_cases = by_sender (sender h bearer) refl
