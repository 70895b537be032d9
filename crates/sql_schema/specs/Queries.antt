-- Queries over one table: SELECT project FROM a table WHERE filters ORDER BY order LIMIT limit.
use Rattle.sql_schema.specs.Prelude.{list_all, Less, Int, Row, Term, lit, col, op2, holds, Binary, Compare, Eq, Le, ascending, Query, inner, end, output, output_cmp, Output, Key}
use Rattle.std.specs.Prelude.{◌≡◌, ℕ, pos, negsuc, List, [], ◌∷◌, filter, None, false}

-- a parameter of the statement, counted from 0
abbrev pub parameter : ℕ → Term
parameter n = col 0 n

-- a cell of the stored row: its rowid at 0, and then its columns from 1 on
abbrev pub cell : ℕ → Term
cell n = col 1 n

-- `=` between what is at this cell and this parameter
abbrev pub equals : ℕ → ℕ → Term
equals at n = op2 (Compare Eq Binary) (cell at) (parameter n)

-- `<=` between what is at this cell and this parameter
abbrev pub at_most : ℕ → ℕ → Term
at_most at n = op2 (Compare Le Binary) (cell at) (parameter n)

-- ORDER BY what is at this cell
abbrev pub rising : ℕ → Term × Key
rising at = (cell at, ascending Binary)

-- a query over the table in this tree
abbrev pub over_table : Term → ℕ → List Term → List Term → List (Term × Key) → Query
over_table limit tree filters project order = record {
  from = inner tree end;
  filter = filters;
  group = None;
  project = project;
  distinct = false;
  collations = [];
  order = order;
  limit = limit;
  offset = lit (Int (pos 0));
}

-- with no LIMIT, which is a limit of -1
abbrev pub from_one : ℕ → List Term → List Term → List (Term × Key) → Query
from_one = over_table (lit (Int (negsuc 0)))

-- with LIMIT 1
abbrev pub first_from : ℕ → List Term → List Term → List (Term × Key) → Query
first_from = over_table (lit (Int (pos 1)))

-- the rows that pass WHERE, with these parameters
abbrev pub passing : List Term → Row → List Row → List Row
passing filters params rows = filter (λ r. list_all (holds (params ∷ r ∷ [])) filters) rows

-- what a row is ordered by, and what the query shows of it
abbrev pub output_of : Query → Row → Row → Output
output_of q params r = output q (params ∷ r ∷ [])

-- the first output comes before the second one, and they don't tie
abbrev pub IsBefore : Query → Output → Output → Type 0
IsBefore q one other = output_cmp q one other ≡ Less
