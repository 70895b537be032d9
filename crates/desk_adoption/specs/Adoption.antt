-- Running servers whose machines become Deployed without a boot and without a switch.
use Rattle.std.specs.{Prelude.{◌≡◌, ℕ, List, ◌++◌, Some, None}, List.All}
use Rattle.desk_adoption.specs.{Prelude.{Ghosts, HasHistory, Hall, Item, Local, Machine, Operator, Origin, Reply, Site, Deployed, Event, at, carried_out, class_of, operator_with_digest}, declared.server.Server.Server}

-- ---- what they are in the end

-- a machine is Deployed for this owner with this image, no order waits for it, and it is told to boot its own disk
pub record IsDeployedFor (name image_name : List ℕ) (m : Machine) : Type 0 where
  pub status : m.status ≡ Deployed
  pub owner : m.owner ≡ Some name
  pub image : m.image ≡ Some image_name
  pub order : m.waiting ≡ None
  pub script : class_of m ≡ Local

-- a server's machine is so in the hall
pub record IsAdopted (owner : List ℕ) (h : Hall) (server : Server) : Type 0 where
  pub machine : Machine
  pub there : at h.machines server.machine ≡ Some machine
  pub is : IsDeployedFor owner server.image machine

-- the machines of all servers are, for the operator whose token has this digest
pub record AreAdopted (digest : List ℕ) (servers : List Server) (h : Hall) : Type 0 where
  pub operator : Operator
  pub has_token : operator_with_digest h digest ≡ Some operator
  pub all : All (IsAdopted operator.name h) servers

-- ---- how they become it

-- the event was carried out at this moment, with these fresh octets
abbrev pub IsCarriedItem : Site → Event → ℕ → List ℕ → Item → Type 0
IsCarriedItem site e moment fresh item = (reply : Reply) × (item ≡ carried_out site e moment fresh reply)

module _ {S : Type 0} (g : Ghosts S) (old new : S) where
  -- a clean store was clean, and has the hall that it had
  abbrev pub Keeps : Type 0
  Keeps = g.is_clean new → g.is_clean old × ((h : Hall) → g.holds old h → g.holds new h)

  -- the hall's history goes on by items that are each of this kind
  abbrev pub GoesOn : (Item → Type 0) → Type 0
  GoesOn Is = (origin : Origin) (past : List Item) → HasHistory g old origin past
      → (items : List Item) × All Is items × HasHistory g new origin (past ++ items)
