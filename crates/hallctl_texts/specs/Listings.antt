-- Machines as the desk lists them, and which of them are wanted.
use Rattle.std.specs.Prelude.{◌≡◌, Option, Some, None, option_and_then, codes}
use Rattle.serde_json.specs.Data.{Data}
use Rattle.hallctl_texts.specs.{Members.{name_at, name_or_null, number_at, status_at}, declared.listings.{Filter.Filter, ListedMachine.ListedMachine}}

-- a member, and then other ones, up to the first that isn't there
infixl 10 ◌>>=◌
abbrev pub ◌>>=◌ : {A B : Type 0} → Option A → (A → Option B) → Option B
member >>= others = option_and_then others member

-- the machine that an object says, if it says one
unfoldable pub listed_at : Data → Option ListedMachine
listed_at value = do
  id ← number_at (codes "id") value
  status ← status_at value
  version ← number_at (codes "version") value
  pool ← name_at (codes "pool") value
  owner ← name_or_null (codes "owner") value
  image ← name_or_null (codes "image") value
  Some (record { id = id; status = status; version = version; pool = pool; owner = owner; image = image })

-- the value is the one that is wanted, if one is
abbrev pub Agrees : {T : Type 0} → Option T → T → Type 0
Agrees None value = Unit {0}
Agrees (Some wanted) value = wanted ≡ value

-- there is a value, and it is the one that is wanted, if one is
abbrev pub Owns : {T : Type 0} → Option T → Option T → Type 0
Owns None value = Unit {0}
Owns (Some wanted) value = Some wanted ≡ value

-- a machine has each of the values that are given
abbrev pub LetsThrough : Filter → ListedMachine → Type 0
LetsThrough filter machine = Agrees filter.status machine.status × Agrees filter.pool machine.pool × Owns filter.owner machine.owner
