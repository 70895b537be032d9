-- A run finds the answer to the frame in its input.
use Rattle.std.{proofs.{Common.{◌≡◌, ℕ, ◌≤◌, Bool, true, false, List, [], length, arith, refl, Option, Some, None, Result, Ok, Err, sym, subst, ◌∙◌, inl, inr}, lemmas.Bool.{false≢true, Decides.nat_tests}}, specs.{Prelude.{◌⊎◌, IfSome, IsTrue, unwrap_or, not, if◌then◌else◌}, Io.KnownBytes.Appends}}
use Rattle.boot_desk.specs.FrameEvent.{frame_decision}
use Rattle.desk_operations.{specs.{Prelude.{Message, IsFrame, FrameFault, IsClient, Site, Client, NotServed, Memory, Port, is_echo_long, is_port_of, is_uuid_of_other, for_address, Silent, FrameView, WrongPort, EchoTooLong, KnownUuid, Fault, BadInput}, FrameInput.{Understood, understood}, Frame.{is_answer, is_served, IsReply, IsGood, IsAnswer, IsBad}}, proofs.FrameInputLemmas.{IsInput-from_understood, understood-from_IsInput}}
use Rattle.hall_report.specs.declared.task_fault.Fault.TheVariants.{Memory as NoMemory}

-- ---- there is no answer

abbrev frame_ok : Message → Result Message FrameFault
frame_ok message = Ok message

abbrev client_ok : Client → Result Client NotServed
client_ok client = Ok client

abbrev client_err : NotServed → Result Client NotServed
client_err cause = Err cause

pub no_frame : (site : Site) (port : Port) (addresses : List (List ℕ)) (octets read reply : List ℕ) (fault : FrameFault)
    → ((message : Message) → IsFrame read message → Err fault ≡ Ok message) → read ≡ octets → IsReply site port addresses octets reply → ⊥
no_frame site port addresses octets read reply fault only same is =
    let e = only is.message (subst (λ (x : List ℕ). IsFrame x is.message) (sym same) is.carries) in
    cc

-- the message that was read is the one of the answer
same_message : (site : Site) (port : Port) (addresses : List (List ℕ)) (octets read reply : List ℕ) (message : Message)
    → ((other : Message) → IsFrame read other → frame_ok message ≡ frame_ok other) → read ≡ octets
    → (is : IsReply site port addresses octets reply) → IsClient message is.client
same_message site port addresses octets read reply message only same is =
    let e = only is.message (subst (λ (x : List ℕ). IsFrame x is.message) (sym same) is.carries) in
    let message_is : message ≡ is.message = cc in
    subst (λ (m : Message). IsClient m is.client) (sym message_is) is.sent

pub no_client : (site : Site) (port : Port) (addresses : List (List ℕ)) (octets read reply : List ℕ) (message : Message) (cause : NotServed)
    → ((other : Message) → IsFrame read other → frame_ok message ≡ frame_ok other) → read ≡ octets
    → ((client : Client) → IsClient message client → (client_err cause ≡ client_ok client) ⊎ (client_err cause ≡ client_err Memory)) → (cause ≡ Memory → ⊥)
    → IsReply site port addresses octets reply → ⊥
no_client site port addresses octets read reply message cause only same clients other is =
    elim (clients is.client (same_message site port addresses octets read reply message only same is)) [ inl gone ↦ absurd cc | inr memory ↦ other cc ]

-- the client that was identified is the one of the answer
same_client : (site : Site) (port : Port) (addresses : List (List ℕ)) (octets read reply : List ℕ) (message : Message) (client : Client)
    → ((other : Message) → IsFrame read other → frame_ok message ≡ frame_ok other) → read ≡ octets
    → ((other : Client) → IsClient message other → (client_ok client ≡ client_ok other) ⊎ (client_ok client ≡ client_err Memory))
    → (is : IsReply site port addresses octets reply) → is.client ≡ client
same_client site port addresses octets read reply message client only same clients is =
    elim (clients is.client (same_message site port addresses octets read reply message only same is)) [ inl found ↦ cc | inr gone ↦ absurd cc ]

pub not_served : (site : Site) (port : Port) (addresses : List (List ℕ)) (octets read reply : List ℕ) (message : Message) (client : Client)
    → ((other : Message) → IsFrame read other → frame_ok message ≡ frame_ok other) → read ≡ octets
    → ((other : Client) → IsClient message other → (client_ok client ≡ client_ok other) ⊎ (client_ok client ≡ client_err Memory))
    → is_served addresses port client ≡ false
    → IsReply site port addresses octets reply → ⊥
not_served site port addresses octets read reply message client only same clients not is =
    let client_is = same_client site port addresses octets read reply message client only same clients is in
    let served = subst (λ (c : Client). IsTrue (is_served addresses port c)) client_is is.served in
    absurd cc

-- ---- a client that is served has an identifier that an option can hold

short_echo : (echo : Option (List ℕ)) → is_echo_long echo ≡ false → length (unwrap_or echo []) ≤ 255
short_echo None is = omega arith
short_echo (Some octets) is = grind (arith, nat_tests, is)

pub is_short : (v : FrameView) (port : Port) (client : Client) → IsTrue (is_answer (frame_decision v port client)) → length (unwrap_or client.echo97 []) ≤ 255
unfolding frame_decision
is_short v port client answers = by (is_port_of client.kind port) (is_echo_long client.echo97) refl answers
  where
    by : (its long : Bool) → is_echo_long client.echo97 ≡ long
        → IsTrue (is_answer (if not its then Silent WrongPort else if long then Silent EchoTooLong else if is_uuid_of_other v.by_uuid v.by_mac then Silent KnownUuid else for_address v.by_mac v client))
        → length (unwrap_or client.echo97 []) ≤ 255
    by true false is answers = short_echo client.echo97 is
    by true true is answers = absurd (false≢true answers)
    by false long is answers = absurd (false≢true answers)

-- ---- good and bad inputs

pub IsGood-understood : (input : List ℕ) (u : Understood) → length input ≤ 65536 → understood input ≡ Some u → IsGood input u.addresses u.octets
IsGood-understood input u room e = record { room = room; has = IsInput-from_understood input u e }

pub IsBad-none : (input : List ℕ) (fault : Fault) → (fault ≡ NoMemory) ⊎ ((fault ≡ BadInput) × (understood input ≡ None)) → fault ≡ BadInput → IsBad input
IsBad-none input fault why is =
    elim why [
      | inl memory ↦ absurd cc
      | inr none ↦ λ addresses octets good. let e = sym none.1 ∙ understood-from_IsInput good.has in cc
    ]

-- ---- what was written

pub answered : (site : Site) (port : Port) (known : Option (List ℕ)) (input text : List ℕ) (old new : Option (List ℕ)) → IfSome known (λ xs. input ≡ xs) → IsAnswer site port input text → Appends old new text → IfSome known (λ xs. (t : List ℕ) × IsAnswer site port xs t × Appends old new t)
answered site port None input text old new same answer written = tt
answered site port (Some xs) input text old new same answer written = (text, subst (λ (x : List ℕ). IsAnswer site port x text) same answer, written)
