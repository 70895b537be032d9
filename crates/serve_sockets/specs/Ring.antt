-- Whose turn it is, up and round.
use Rattle.std.specs.Prelude.{◌≡◌, ◌<◌, ◌≤◌, ◌+◌, ℕ, List, Bool, true, false, Some, length, slice_get, slice_set, nat_lt, if◌then◌else◌}
use Rattle.serve_sockets.specs.{Prelude.{Boot, Discover}, declared.ring.{Origin.{Origin, TheVariants.{Connection, Listener, Port}}, Ring.Ring}}

-- the seat of the discover socket, of the boot socket, of the listener, or of a connection
abbrev pub IsAt : ℕ → Origin → Type 0
IsAt seat (Port Discover) = seat ≡ 0
IsAt seat (Port Boot) = seat ≡ 1
IsAt seat Listener = seat ≡ 2
IsAt seat (Connection slot) = (seat ≡ slot + 3) × (slot < 1024)

-- there are 1,024 slots at most
abbrev pub IsOpenable : Origin → Type 0
IsOpenable (Connection slot) = slot < 1024
IsOpenable other = Unit {0}

-- there are so many slots
abbrev pub IsPlace : ℕ → Origin → Type 0
IsPlace places (Connection slot) = slot < places
IsPlace places other = Unit {0}

-- the seat is ready, and no other between `from` and it, up and round, is
pub record IsNext (ready : List Bool) (from seat : ℕ) : Type 0 where
  pub is_ready : slice_get ready seat ≡ Some true
  pub above : from ≤ seat → (k : ℕ) → from ≤ k → k < seat → slice_get ready k ≡ Some false
  pub round : seat < from → (k : ℕ) → from ≤ k → k < length ready → slice_get ready k ≡ Some false
  pub below : seat < from → (k : ℕ) → k < seat → slice_get ready k ≡ Some false

-- which seats may have something
abbrev pub ready_of : Ring → List Bool
ready_of ring = ring.ready.items

-- the seat that is asked first
abbrev pub next_of : Ring → ℕ
next_of ring = ring.next

-- the socket for datagrams that is asked first
abbrev pub port_of : Ring → ℕ
port_of ring = ring.port

-- a seat's mark is changed, if there is such a seat
abbrev pub with_seat : List Bool → ℕ → Bool → List Bool
with_seat ready seat is = if nat_lt seat (length ready) then slice_set ready seat is else ready
