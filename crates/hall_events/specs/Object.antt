-- Objects of JSON (RFC 8259 section 4), their members in the order of their names' octets.
use Rattle.std.specs.Prelude.{ℕ, List, [], ◌∷◌, Option, Some, None}
use Rattle.serde_json.specs.{Data.{Data, null, number, unsigned, array, object, Members, no_members, put}, View.items_of}

-- a member's name and its value
abbrev pub Member : Type 0
Member = List ℕ × Data

-- with these members more, each at its place in the order of names
abbrev pub put_all : List Member → Members → Members
put_all [] old = old
put_all (m ∷ ms) old = put_all ms (put m.0 m.1 old)

-- the object with these members
abbrev pub object_of : List Member → Data
object_of ms = object (put_all ms no_members)

-- an object with one member, which is a list
abbrev pub list_object : List ℕ → List Data → Data
list_object name items = object_of ((name, array (items_of items)) ∷ [])

-- a member that is left out if it has no value
abbrev pub member_if : List ℕ → Option Data → List Member
member_if name None = []
member_if name (Some value) = (name, value) ∷ []

-- an absent value is null
abbrev pub or_null : {A : Type 0} → (A → Data) → Option A → Data
or_null made None = null
or_null made (Some a) = made a

-- a number that isn't negative
abbrev pub count : ℕ → Data
count n = number (unsigned n)
