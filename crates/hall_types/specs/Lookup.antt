-- Rows of a hall looked up by what is not their key.
use Rattle.std.specs.{Prelude.{ℕ, ◌==◌, nat_lt, nat_le, Bool, true, false, ◌||◌, List, [], ◌∷◌, Option, Some, None, IsSome, ◌≡◌, filter, find, if◌then◌else◌}, List.list_any, Str.bytes_eq}
use Rattle.hall_types.specs.{Rows.{Keys, Rows, at, listed}, Hall.Hall, declared.{kinds.OrderStage.{OrderStage, TheVariants.Waiting}, machine.{Interface.Interface, Machine.Machine}, operator.Operator.Operator, order.Order.Order}}

-- there is a row with this key
abbrev pub HasRow : {K X : Type 0} {keys : Keys K} → Rows keys X → K → Type 0
HasRow rows key = IsSome (at rows key)

-- if a key is given, there is a row with it
abbrev pub HasRowIf : {K X : Type 0} {keys : Keys K} → Rows keys X → Option K → Type 0
HasRowIf {K = K} rows given = (key : K) → given ≡ Some key → HasRow rows key

-- ---- machines by UUID, operators by digest

-- a UUID is recorded, and it is this one
abbrev pub has_uuid : Option (List ℕ) → List ℕ → Bool
has_uuid None uuid = false
has_uuid (Some its) uuid = bytes_eq its uuid

-- the machine that a UUID is recorded with
abbrev pub machine_with_uuid : Hall → List ℕ → Option Machine
machine_with_uuid h uuid = find (λ m. has_uuid m.uuid uuid) (listed h.machines)

-- the operator whose token has this digest
abbrev pub operator_with_digest : Hall → List ℕ → Option Operator
operator_with_digest h digest = find (λ o. bytes_eq o.digest digest) (listed h.operators)

-- ---- the next machine to expire

-- there is a deadline, and it is at most this moment
abbrev pub has_come : ℕ → Option ℕ → Bool
has_come moment None = false
has_come moment (Some deadline) = nat_le deadline moment

abbrev pub is_due : ℕ → Machine → Bool
is_due moment m = has_come moment m.deadline

-- the machine, if it is due
abbrev pub if_due : ℕ → Option Machine → Option Machine
if_due moment None = None
if_due moment (Some m) = if is_due moment m then Some m else None

-- a deadline is before a later one, and before none
abbrev pub is_before : Option ℕ → Option ℕ → Bool
is_before None other = false
is_before (Some deadline) None = true
is_before (Some deadline) (Some other) = nat_lt deadline other

-- of two machines the one with the lesser deadline, the first if neither has it
abbrev pub sooner : Machine → Option Machine → Machine
sooner m None = m
sooner m (Some other) = if is_before other.deadline m.deadline then other else m

-- the first machine with the least deadline
abbrev pub soonest : List Machine → Option Machine
soonest [] = None
soonest (m ∷ ms) = Some (sooner m (soonest ms))

-- of the machines that are due, the first with the least deadline
abbrev pub next_expired : Hall → ℕ → Option Machine
next_expired h moment = soonest (filter (is_due moment) (listed h.machines))

-- ---- who refers to an image

-- a name is given, and it is this one
abbrev pub is_named : Option (List ℕ) → List ℕ → Bool
is_named None name = false
is_named (Some its) name = bytes_eq its name

-- whether it is an architecture's live image, or a machine's image
abbrev pub is_image_used : Hall → List ℕ → Bool
is_image_used h name =
    list_any (λ l. bytes_eq l.image name) (listed h.lives) || list_any (λ m. is_named m.image name) (listed h.machines)

-- ---- lists

abbrev pub waits : OrderStage → Bool
waits Waiting = true
waits other = false

-- the orders that wait, by number
abbrev pub waiting : Hall → List Order
waiting h = filter (λ o. waits o.stage) (listed h.orders)

-- the interfaces of a machine, by address
abbrev pub interfaces_of : Hall → ℕ → List Interface
interfaces_of h id = filter (λ i. i.machine == id) (listed h.interfaces)
