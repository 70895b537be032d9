-- What an adoption brings to the desk: no release, no abort, and nothing on a machine that wasn't named.
use Rattle.std.specs.{Prelude.{◌≡◌, ⊤, ℕ, Bool, true, false, List, Some, None}, List.Contains}
use Rattle.hall_types.specs.declared.act.Act.{Act as Word}
use Rattle.hall_types.specs.declared.kinds.{Outcome.Outcome, Progress.Progress}
use Rattle.hall_types.specs.declared.kinds.Outcome.TheVariants as outcome
use Rattle.hall_types.specs.declared.kinds.Progress.TheVariants as progress
use Rattle.desk_adoption.specs.{Prelude.{Act, Allocate, Command, Commission, Deploy, Event, HallCommand, MachineCommand, Item, OnMachine, OrderAnswer, Report, Script, Site}, Adoption.IsCarriedItem, declared.{next.Next.Next, next.Next.TheVariants.Event as Comes, server.{Adopters.Adopters, Server.Server}}}

-- a machine is commissioned without tests
abbrev pub IsUntested : Bool → Type 0
IsUntested true = ⊥
IsUntested false = ⊤

-- a machine is allocated
abbrev pub IsAllocate : Word → Type 0
IsAllocate Allocate = ⊤
IsAllocate other = ⊥

abbrev pub IsDone : Outcome → Type 0
IsDone outcome.Done = ⊤
IsDone other = ⊥

abbrev pub IsReportedDone : Progress → Type 0
IsReportedDone progress.Done = ⊤
IsReportedDone other = ⊥

module _ (adopters : Adopters) (server : Server) where
  -- an admin commissions the machine, the owner allocates it and deploys it with the server's image
  abbrev pub IsCommand : List ℕ → MachineCommand → Type 0
  IsCommand bearer (Commission tests) = (adopters.admin ≡ Some bearer) × IsUntested tests
  IsCommand bearer (Act word) = (bearer ≡ adopters.owner) × IsAllocate word
  IsCommand bearer (Deploy image) = (bearer ≡ adopters.owner) × (image ≡ server.image)
  IsCommand bearer other = ⊥

  -- on the server's machine alone, whatever its version
  abbrev pub IsHallCommand : List ℕ → HallCommand → Type 0
  IsHallCommand bearer (OnMachine machine None command) = (machine ≡ server.machine) × IsCommand bearer command
  IsHallCommand bearer other = ⊥

  -- such a command, an order that is answered as done by the power operator, a script that is asked for, a boot that is reported as done
  abbrev pub IsOfAdoption : Event → Type 0
  IsOfAdoption (Command (Some bearer) key command) = IsHallCommand bearer command
  IsOfAdoption (OrderAnswer (Some bearer) order outcome) = (bearer ≡ adopters.power) × IsDone outcome
  IsOfAdoption (Script mac) = ⊤
  IsOfAdoption (Report boot token progress) = IsReportedDone progress
  IsOfAdoption other = ⊥

  -- what comes next, if anything does, is of the adoption
  abbrev pub IsNextOf : Next → Type 0
  IsNextOf (Comes e) = IsOfAdoption e
  IsNextOf other = ⊤

-- an event of the adoption of one of these servers was carried out at this moment
pub record IsAdoptionItem (site : Site) (adopters : Adopters) (servers : List Server) (moment : ℕ) (item : Item) : Type 0 where
  pub server : Server
  pub among : Contains servers server
  pub event : Event
  pub of : IsOfAdoption adopters server event
  pub fresh : List ℕ
  pub is : IsCarriedItem site event moment fresh item
