-- How old what is known of a hall is.
use Rattle.std.specs.Prelude.{ℕ, ◌-◌, ◌*◌, max, Bool, true, nat_lt, if◌then◌else◌, Option, None, Some}

-- a list of this moment is old: it is older than three times as long as it takes until the desk is asked again, and than half a minute
abbrev pub is_old : (now every at : ℕ) → Bool
is_old now every at = nat_lt (max 30 (3 * every)) (now - at)

-- what is shown of a hall is stale: the last answer was no list, or there was none, or it is old
abbrev pub is_stale : (now every : ℕ) (up : Bool) (at : Option ℕ) → Bool
is_stale now every up None = true
is_stale now every up (Some at) = if up then is_old now every at else true
