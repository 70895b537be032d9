-- Counts of machines, changed and listed.
use Rattle.sql_schema.specs.{Words.{bytes_eq, Text, Row, status_number, number, Counts, HallRows}, declared.creating.TheConstants.ADD_COUNT}
use Rattle.std.specs.Prelude.{ℕ, ◌==◌, ◌&&◌, List, [], ◌∷◌, if◌then◌else◌}
use Rattle.hall_store.specs.declared.count.Count.{Count}
use Rattle.sql_items.specs.declared.counts.TheConstants.{SET_COUNT}

-- so many machines in this pool and status, and in each other as before
abbrev pub counting : Counts → List ℕ → ℕ → ℕ → Counts
counting all pool status count p s = if bytes_eq p pool && (s == status) then count else all p s

-- with this count of a pool and a status
abbrev pub with_count : HallRows → List ℕ → ℕ → ℕ → HallRows
with_count c pool status count = record c { counts = counting c.counts pool status count }

-- the statement that makes a count another one: 0 has no row
abbrev pub text_from : ℕ → List ℕ
text_from was = if was == 0 then ADD_COUNT.now else SET_COUNT.now

-- a count as the query of all counts shows it
abbrev pub count_values : Count → Row
count_values c = Text c.pool ∷ number (status_number c.status) ∷ number c.machines ∷ []
