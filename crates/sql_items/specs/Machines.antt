-- Machines of a hall: what a change of them is given, and what it may ask.
use Rattle.sql_schema.specs.Words.{Row, Has, Keys, Rows, at, listed, Machine, Interface, Boot, Order, Wipe, number, machine_values, HallRows}
use Rattle.std.specs.Prelude.{◌≡◌, ◌==◌, ℕ, false, [], ◌∷◌, ◌++◌, Some}

-- the values of a machine, and the version that its row is to have before
abbrev pub checked_values : Machine → ℕ → Row
checked_values m was = machine_values m ++ number was ∷ []

-- none of the rows points to the machine with this number
abbrev pub NonePointTo : {K X : Type 0} {keys : Keys K} → (X → ℕ) → Rows keys X → ℕ → Type 0
NonePointTo {X = X} machine_of rows id = (x : X) → Has (listed rows) x → (machine_of x == id) ≡ false

-- no interface, boot, order or kind of erasing points to it
pub record HasNoChild (c : HallRows) (id : ℕ) : Type 0 where
  pub interfaces : NonePointTo (λ (i : Interface). i.machine) c.hall.interfaces id
  pub boots : NonePointTo (λ (b : Boot). b.machine) c.hall.boots id
  pub orders : NonePointTo (λ (o : Order). o.machine) c.hall.orders id
  pub wipes : NonePointTo (λ (w : Wipe). w.machine) c.wipes id

-- the machine with this number is there, with this version
abbrev pub HasVersion : HallRows → ℕ → ℕ → Type 0
HasVersion c id was = (there : Machine) × (at c.hall.machines id ≡ Some there) × (there.version ≡ was)
