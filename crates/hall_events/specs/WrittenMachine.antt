-- How a machine is written: member by member.
use Rattle.std.specs.Prelude.{ℕ, Bool, true, List, [], ◌∷◌, ◌++◌, nat_le, not, ◌&&◌, ◌==◌}
use Rattle.json.specs.Print.{quoted}
use Rattle.serde_json.specs.Written.{comma_if, compact_text}
use Rattle.hall_events.specs.Object.{Member}

-- an octet that stands for itself in a text: neither a control, nor a quotation mark, nor a backslash
abbrev pub is_plain : ℕ → Bool
is_plain octet = nat_le 32 octet && not (octet == 34) && not (octet == 92)

-- what is written before a member's value
abbrev pub before : Bool → List ℕ → List ℕ
before later name = comma_if later ++ (quoted name ++ 58 ∷ [])

-- members one after another, with a comma before each that something stands before
abbrev pub written : Bool → List Member → List ℕ
written later [] = []
written later (m ∷ ms) = comma_if later ++ (quoted m.0 ++ 58 ∷ (compact_text m.1 ++ written true ms))
