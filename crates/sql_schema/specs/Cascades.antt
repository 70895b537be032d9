-- What a write sets off in the tables that refer to its table.
use Rattle.sql_schema.specs.Prelude.{list_any, AllByRecursion, Row, Table, Schema, Trees, Reference, NoAction, Has, Work, is_child_of, max_depth}
use Rattle.std.specs.Prelude.{◌≡◌, nat_lt, true, false, List, [], ℕ}
use Rattle.sqlite_value.specs.declared.keys.Order.{Order}
use Rattle.sqlite_rules.specs.{Action.pairs, declared.action.Deed.TheVariants.Delete}

-- no row is a child of a row that goes
pub record IsIdle (db : Trees) (w : Work) : Type 0 where
  pub low : nat_lt w.depth max_depth ≡ true
  pub none : (r : Row) → Has (db w.child.tree) r → list_any (is_child_of w r) w.moves ≡ false

-- ON DELETE CASCADE in a table of children, where these rows go
abbrev pub cascade : Table → Reference → List ℕ → Order → List Row → Work
cascade child ref places order olds = record { depth = 0; child = child; ref = ref; places = places; order = order; deed = Delete; moves = pairs olds [] }

-- no table follows a key that changes: each REFERENCES has ON UPDATE NO ACTION
abbrev pub NeverFollows : Schema → Type 0
NeverFollows schema = AllByRecursion (λ (t : Table). AllByRecursion (λ (ref : Reference). ref.on_update ≡ NoAction) t.references) schema.tables
