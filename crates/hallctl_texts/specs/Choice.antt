-- Which machines of a list are chosen, and in which order.
use Rattle.std.specs.{Prelude.{◌≡◌, List, [], ◌∷◌, Bool, true, false, Option, Some, None, IsSome, is_some, map, codes}, List.{Any, Sorted.IsPermutation}, Borrow.Bor}
use Rattle.serde_json.specs.{Data.Data, View.view, declared.value.Value.Value}
use Rattle.hallctl_texts.specs.{Listings.{LetsThrough, listed_at}, Members.list_at, declared.{choosing.{Choice.Choice, Keyed.Keyed}, listings.{Filter.Filter, ListedMachine.ListedMachine}}}

-- an object says a machine that the filter lets through
abbrev pub IsLetThrough : Filter → Data → Type 0
IsLetThrough filter value = (machine : ListedMachine) × (listed_at value ≡ Some machine) × LetsThrough filter machine

-- an object says a machine that the filter doesn't let through
abbrev pub IsBarred : Filter → Data → Type 0
IsBarred filter value = (machine : ListedMachine) × (listed_at value ≡ Some machine) × ¬ (LetsThrough filter machine)

-- an object may be left out: without a search only if it is barred, with one if it says any machine
abbrev pub MayBeLeft : Filter → Bool → Data → Type 0
MayBeLeft filter false value = IsBarred filter value
MayBeLeft filter true value = IsSome (listed_at value)

-- The second list has objects of the first, in their order: the one fact holds of each that is taken, the other of each that is left out.
pub data Picks (Taken Left : Data → Type 0) : List Data → List Data → Type 0 where
  nothing : Picks Taken Left [] []
  taken : (value : Data) (objects picked : List Data) → Taken value → Picks Taken Left objects picked → Picks Taken Left (value ∷ objects) (value ∷ picked)
  left : (value : Data) (objects picked : List Data) → Left value → Picks Taken Left objects picked → Picks Taken Left (value ∷ objects) picked

-- what is picked of a list of objects by a filter, with a search or without one
abbrev pub PicksOf : Filter → Bool → List Data → List Data → Type 0
PicksOf filter searches = Picks (IsLetThrough filter) (MayBeLeft filter searches)

-- objects are in the order that they had, or, by a column, in any
abbrev pub AreInOrder : {C : Type 0} → Option C → List Data → List Data → Type 0
AreInOrder None picked chosen = chosen ≡ picked
AreInOrder (Some column) picked chosen = IsPermutation picked chosen

-- these objects are chosen of an answer's list of machines, each of which says one
pub record IsChosen (choice : Choice) (answer : Data) (chosen : List Data) : Type 0 where
  pub objects : List Data
  pub picked : List Data
  pub is_list : list_at (codes "machines") answer ≡ Some objects
  pub is_picked : PicksOf choice.filter (is_some choice.search) objects picked
  pub is_in_order : AreInOrder choice.sort picked chosen

-- an object of the list says no machine
abbrev pub SomeSaysNone : List Data → Type 0
SomeSaysNone objects = Any (λ value. listed_at value ≡ None) objects

-- an answer has no list of machines, or an object of it says none
abbrev pub IsNoList : Data → Type 0
IsNoList answer = (objects : List Data) → list_at (codes "machines") answer ≡ Some objects → SomeSaysNone objects

-- the data of the values that these references point to
abbrev pub views : List (Bor Value) → List Data
views objects = map (λ object. view object.now) objects

-- the data of the objects that stand beside keys
abbrev pub keyed_views : List Keyed → List Data
keyed_views machines = map (λ machine. view machine.object.now) machines
