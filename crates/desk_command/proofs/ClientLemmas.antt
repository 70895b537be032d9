-- What is enough for a client's frame.
use Rattle.std.{specs.Prelude.{◌≡◌, ℕ, not, Bool, true, false, Option, Some, if◌then◌else◌}, proofs.Common.{sym, ap, ◌∙◌}}
use Rattle.boot_desk.specs.FrameEvent.{frame_decision}
use Rattle.desk_command.specs.{Prelude.{Client, Hall, Port, file_for, for_address, frame_view, is_echo_long, is_port_of, is_uuid_of_other, Decision, Loader, ScriptUrl, Enlist, Silent, FrameView, WrongPort, EchoTooLong, KnownUuid}, Client.IsEnough}

-- the decision for a client whose address is known
abbrev decided : Option ℕ → ℕ → Port → Client → Decision
decided by_uuid id port client =
    if not (is_port_of client.kind port) then Silent WrongPort
    else if is_echo_long client.echo97 then Silent EchoTooLong
    else if is_uuid_of_other by_uuid (Some id) then Silent KnownUuid
    else file_for client

known_decision : (v : FrameView) (port : Port) (client : Client) (id : ℕ) → v.by_mac ≡ Some id → frame_decision v port client ≡ decided v.by_uuid id port client
unfolding frame_decision
known_decision v port client id is =
    ap (λ (o : Option ℕ). if not (is_port_of client.kind port) then Silent WrongPort
    else if is_echo_long client.echo97 then Silent EchoTooLong
    else if is_uuid_of_other v.by_uuid o then Silent KnownUuid
    else for_address o v client) is

never : (wrong long other ipxe : Bool)
    → (if wrong then Silent WrongPort else if long then Silent EchoTooLong else if other then Silent KnownUuid else if ipxe then ScriptUrl else Loader) ≡ Enlist → ⊥
never true long other ipxe is = cc
never false true other ipxe is = cc
never false false true ipxe is = cc
never false false false true is = cc
never false false false false is = cc

known_stays : (by_uuid : Option ℕ) (id : ℕ) (port : Port) (client : Client) → decided by_uuid id port client ≡ Enlist → ⊥
known_stays by_uuid id port client is = never (not (is_port_of client.kind port)) (is_echo_long client.echo97) (is_uuid_of_other by_uuid (Some id)) client.ipxe is

-- a client whose address is known isn't enlisted, and what else the hall has is of no use for it
pub known_enough : (h : Hall) (client : Client) (v : FrameView) (id : ℕ) → v.by_mac ≡ Some id
    → v.by_mac ≡ (frame_view h client).by_mac → v.by_uuid ≡ (frame_view h client).by_uuid → IsEnough h client v
known_enough h client v id known mac uuid = record {
  decides = λ port. known_decision v port client id known
      ∙ ap (λ o. decided o id port client) uuid
      ∙ sym (known_decision (frame_view h client) port client id (sym mac ∙ known));
  numbers = λ port is. absurd (known_stays v.by_uuid id port client (sym (known_decision v port client id known) ∙ is));
}

-- all that the hall has of a client is enough
pub whole_enough : (h : Hall) (client : Client) (v : FrameView) → v ≡ frame_view h client → IsEnough h client v
whole_enough h client v is = record {
  decides = λ port. ap (λ (u : FrameView). frame_decision u port client) is;
  numbers = λ port enlists. ap (λ (u : FrameView). u.numbers) is;
}
