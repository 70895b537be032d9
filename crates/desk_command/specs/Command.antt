-- What an operator's command is answered.
use Rattle.std.specs.{Prelude.{ℕ, Bool, true, false, List, [], ◌∷◌, ◌++◌, Option, Some, None, Result, Ok, Err, if◌then◌else◌}, Str.bytes_eq}
use Rattle.hall_types.specs.declared.kinds.Role.TheVariants as role
use Rattle.hall_types.specs.declared.refusal.Refusal.TheVariants as cause
use Rattle.desk_command.specs.{Prelude.{Hall, second, pair, operator_with_digest, at, RowWrite, PutReceipt, Role, Operator, Receipt, Refusal, command_text, Content, reply_of, stored, HallCommand, OnMachine, Reply, Http, who_acts, Who, Admin, Action}, Causes.{action_of, causes, command_view, first_of}, Effect.{Effect, effect}, declared.view.CommandView.CommandView}

-- ---- who may send it

abbrev pub is_admin_alone : Who → Bool
is_admin_alone Admin = true
is_admin_alone other = false

-- a command on a machine that is no action is an admin's
abbrev pub is_admin_action : Option Action → Bool
is_admin_action None = true
is_admin_action (Some action) = is_admin_alone (who_acts action)

-- a command that only an admin may send
abbrev pub needs_admin : HallCommand → Bool
needs_admin (OnMachine id version command) = is_admin_action (action_of command)
needs_admin other = true

-- the power program may send none
abbrev pub may_send : Role → Bool → Bool
may_send role.Admin needed = true
may_send role.User needed = if needed then false else true
may_send role.Power needed = false

-- ---- the receipt

abbrev pub body_of : Reply → List ℕ
body_of (Http status kind body) = body
body_of other = []

-- what is kept of an accepted command
abbrev pub receipt_of : Operator → List ℕ → HallCommand → Content → Receipt
receipt_of o key command content = record {
  operator = o.name;
  key = key;
  command = command_text command;
  status = 200;
  body = body_of (reply_of second content);
}

abbrev pub with_receipt : Operator → List ℕ → HallCommand → Effect → Effect
with_receipt o key command (Ok decision) = Ok (decision.0 ++ PutReceipt (receipt_of o key command decision.1) ∷ [], decision.1)
with_receipt o key command (Err refusal) = Err refusal

-- ---- the answer

abbrev pub unless : Option Refusal → Effect → Effect
unless (Some refusal) decision = Err refusal
unless None decision = decision

-- an operator's new command: the first cause to refuse it, or its effect with a receipt
unfoldable pub commanded : CommandView → Operator → List ℕ → HallCommand → ℕ → Effect
commanded v o key command moment =
    unless (first_of (causes v o command)) (with_receipt o key command (effect v o command moment))

-- with the answer's text
abbrev pub replied : Effect → Result (List RowWrite × Reply) Refusal
replied (Ok decision) = Ok (decision.0, reply_of second decision.1)
replied (Err refusal) = Err refusal

-- a request whose key has a receipt is answered again, if it is the same command
abbrev pub repeated : Receipt → HallCommand → Effect
repeated r command =
    if bytes_eq r.command (command_text command) then Ok ([], stored r.status r.body) else Err cause.KeyReused

abbrev pub keyed : Hall → Operator → Option Receipt → List ℕ → HallCommand → ℕ → Effect
keyed h o (Some r) key command moment = repeated r command
keyed h o None key command moment =
    if may_send o.role (needs_admin command) then commanded (command_view h o command) o key command moment
    else Err cause.RoleNeeded

-- an operator that is disabled is unknown
abbrev pub of_sender : Hall → Option Operator → List ℕ → HallCommand → ℕ → Effect
of_sender h None key command moment = Err cause.UnknownToken
of_sender h (Some o) key command moment =
    if o.enabled then keyed h o (at h.receipts (pair o.name key)) key command moment else Err cause.UnknownToken

-- the operator of a bearer token's digest
abbrev pub sender : Hall → Option (List ℕ) → Option Operator
sender h None = None
sender h (Some digest) = operator_with_digest h digest

-- what a hall makes of a request with this bearer token, this key and this command
unfoldable pub command_decision : Hall → Option (List ℕ) → List ℕ → HallCommand → ℕ → Effect
command_decision h bearer key command moment = of_sender h (sender h bearer) key command moment
