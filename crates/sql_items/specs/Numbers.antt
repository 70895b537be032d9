-- The last numbers of a hall, changed.
use Rattle.sql_schema.specs.Words.{Row, Numbers, number, HallRows}
use Rattle.std.specs.Prelude.{◌∷◌, []}

-- with these last numbers
abbrev pub with_numbers : HallRows → Numbers → HallRows
with_numbers c last = record c { hall = record c.hall { last = last } }

-- the last numbers, as they are given
abbrev pub last_values : Numbers → Row
last_values last = number last.machine ∷ number last.boot ∷ number last.order ∷ []

-- after the number of the schema, as a query shows them
abbrev pub schema_values : Numbers → Row
schema_values last = number 2 ∷ last_values last
