-- Which replies are sent.
use Rattle.std.specs.Prelude.{◌≡◌, ℕ, List, Some}
use Rattle.serve_sockets.specs.{Prelude.{Site, GivesAnswer, Answer, Datagram, Ghosts}, Turn.Tells, declared.{replying.Way.Way, turn.Handover.Handover}}

-- the octets of a reply were sent that way, once, and nothing for another answer; `sends` says what one call sends
abbrev pub IsSent : {P : Type 0} → (P → Way → List ℕ → P → Type 0) → P → Way → Answer → P → Type 0
IsSent sends sender way (Answer.Frame octets) sender' = sends sender way octets sender'
IsSent sends sender way other sender' = sender' ≡ sender

-- a datagram was handed to the desk, and its own answer was sent the way that it came
pub record IsReplied {S P : Type 0} (g : Ghosts S) (sends : P → Way → List ℕ → P → Type 0)
    (old new : S) (sender sender' : P) (site : Site) (moment : ℕ) (fresh : List ℕ) (way : Way) (octets : List ℕ) (handover : Handover) : Type 0 where
  pub said : Answer
  pub tells : Tells handover (Datagram way.port octets) said
  pub from : handover.from ≡ Some way.client
  pub answered : GivesAnswer g old new site (Datagram way.port octets) moment fresh said
  pub sent : IsSent sends sender way said sender'
