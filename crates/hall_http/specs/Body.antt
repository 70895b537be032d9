-- Bodies of requests as JSON values (RFC 8259), and which members an object has.
use denote.Bor.{Bor}
use Rattle.std.specs.{Prelude.{ℕ, List, [], ◌∷◌, map, Option, Some, None, option_and_then, is_some, bytes_eq, Bool, false, ◌&&◌, ◌||◌, if◌then◌else◌}, List.{list_all, list_any}, Str.is_utf8}
use Rattle.hall_http.specs.Prelude.{Data, Members, no_members, member, get, as_object, read}

-- the octets, if they are UTF-8
abbrev pub text_of : List ℕ → Option (List ℕ)
text_of body = if is_utf8 body then Some body else None

-- the value of a body: of members with one name the last counts
abbrev pub data_of : List ℕ → Option Data
data_of body = option_and_then read (text_of body)

-- the octets of some texts
abbrev pub texts : List (Bor (List ℕ)) → List (List ℕ)
texts names = map (λ name. name.now) names

-- the names of an object's members, in order
abbrev pub names_of : Members → List (List ℕ)
names_of no_members = []
names_of (member name value members) = name ∷ names_of members

-- the name is one of these
abbrev pub is_among : List (List ℕ) → List ℕ → Bool
is_among names name = list_any (λ one. bytes_eq one name) names

-- each of these members is there
abbrev pub has_all : List (List ℕ) → Data → Bool
has_all names json = list_all (λ name. is_some (get name json)) names

-- the name is one that the object may have
abbrev pub is_allowed : List (List ℕ) → List (List ℕ) → List (List ℕ) → List ℕ → Bool
is_allowed common own optional name = is_among common name || is_among own name || is_among optional name

abbrev pub has_only : List (List ℕ) → List (List ℕ) → List (List ℕ) → Option Members → Bool
has_only common own optional None = false
has_only common own optional (Some members) = list_all (is_allowed common own optional) (names_of members)

-- an object with each common and each own member, perhaps the optional ones, and no other
abbrev pub fits : List (List ℕ) → List (List ℕ) → List (List ℕ) → Data → Bool
fits common own optional json =
    has_only common own optional (as_object json) && has_all common json && has_all own json
