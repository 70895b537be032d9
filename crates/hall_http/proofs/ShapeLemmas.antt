-- The names of an object's members.
use Rattle.std.{proofs.Common.{◌≡◌, List, [], ◌∷◌, map, String, Global, string_bytes, refl, ap}, specs.Map.keys_of}
use Rattle.hall_http.specs.{Prelude.{members_view, Value}, Body.names_of}

pub names_of_members_view : (entries : List (String Global × Value)) → names_of (members_view entries) ≡ map string_bytes (keys_of entries)
names_of_members_view [] = refl
names_of_members_view (entry ∷ entries) = ap (λ rest. string_bytes entry.0 ∷ rest) (names_of_members_view entries)
