-- The answer of the program to its input.
use Rattle.std.specs.{Prelude.{◌≡◌, ◌≤◌, ℕ, suc, nat_le, Bool, true, false, List, [], ◌∷◌, ◌++◌, length, position, Option, Some, None, option_and_then, if◌then◌else◌, IsTrue, ⊤}, Str.bytes_eq}
use Rattle.desk_operations.specs.{Prelude.{encode_lower, Message, IsFrame, reply_octets, answer_to, boot_file_of, IsClient, Site, Client, max_number, Port, Decision, Loader, ScriptUrl, FrameView, IsFrameFault}, declared.{frame_input.TheConstants.MAX_OCTETS, frames.Exit.{Exit, TheVariants.{Done, Fault as Failed, NotAll, Silence}}}, FrameInput.IsInput}
use Rattle.boot_desk.specs.FrameEvent.{frame_decision}

-- a machine's number
abbrev pub numbered : ℕ → Option ℕ
numbered n = if nat_le n max_number then Some n else None

-- the number of the first line with an address
abbrev pub line_number : List (List ℕ) → List ℕ → Option ℕ
line_number addresses mac = option_and_then (λ i. numbered (suc i)) (position (λ address. bytes_eq address mac) addresses)

-- a listed address is that of a machine without a UUID, which has the line's number
abbrev pub line_view : List (List ℕ) → List ℕ → FrameView
line_view addresses mac = record {
  by_mac = line_number addresses mac;
  by_uuid = None;
  machines = 0;
  numbers = record { machine = 0; boot = 0; order = 0 };
}

-- no client is enlisted here
abbrev pub is_answer : Decision → Bool
is_answer Loader = true
is_answer ScriptUrl = true
is_answer other = false

-- whether a client at a port is answered
abbrev pub is_served : List (List ℕ) → Port → Client → Bool
is_served addresses port client = is_answer (frame_decision (line_view addresses client.mac) port client)

-- a client that is served sent the octets to the port, and this is the answer to it
pub record IsReply (site : Site) (port : Port) (addresses : List (List ℕ)) (octets reply : List ℕ) : Type 0 where
  pub message : Message
  pub client : Client
  pub carries : IsFrame octets message
  pub sent : IsClient message client
  pub served : IsTrue (is_served addresses port client)
  pub is : reply ≡ reply_octets (answer_to message client site (boot_file_of client site))

-- the input is not too long, and has these addresses and these octets
pub record IsGood (input : List ℕ) (addresses : List (List ℕ)) (octets : List ℕ) : Type 0 where
  pub room : length input ≤ MAX_OCTETS
  pub has : IsInput input addresses octets

-- the text is the answer to the frame in the input, in lower-case hexadecimal and with a line feed
pub record IsAnswer (site : Site) (port : Port) (input text : List ℕ) : Type 0 where
  pub addresses : List (List ℕ)
  pub octets : List ℕ
  pub reply : List ℕ
  pub good : IsGood input addresses octets
  pub is_reply : IsReply site port addresses octets reply
  pub written : text ≡ encode_lower reply ++ 10 ∷ []

-- the input is good, and there is no answer to the frame in it
pub record IsIgnored (site : Site) (port : Port) (input : List ℕ) : Type 0 where
  pub addresses : List (List ℕ)
  pub octets : List ℕ
  pub good : IsGood input addresses octets
  pub none : (reply : List ℕ) → IsReply site port addresses octets reply → ⊥

-- the input is too long, or doesn't have addresses and octets
abbrev pub IsBad : List ℕ → Type 0
IsBad input = (addresses : List (List ℕ)) (octets : List ℕ) → IsGood input addresses octets → ⊥

-- how the run of one frame can end
abbrev pub IsFrameEnd : Exit → Type 0
IsFrameEnd Done = ⊤
IsFrameEnd (Failed fault) = IsFrameFault fault
IsFrameEnd NotAll = ⊥
IsFrameEnd Silence = ⊤

-- the program's exit status
abbrev pub status_of : Exit → ℕ
status_of Done = 0
status_of (Failed fault) = 1
status_of NotAll = 1
status_of Silence = 3
