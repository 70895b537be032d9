-- What a statement makes of the rows of a hall's tables, inside a transaction.
use Rattle.sql_schema.specs.Words.{Row, State, ExecutesInside, Shown, Hall, IsWithin, HallRows}
use Rattle.std.specs.Prelude.{◌≡◌, ◌⊎◌, ℕ, List, length, Ok}

-- A clause can range over connections and not over the states that they show, which are no `Type 0`: so these facts are about any
-- connections, and what they show.
module _ {C : Type 0} (shows : C → State) where
  -- the statement, with these parameters, makes the second rows of the first
  abbrev pub Makes : List ℕ → Row → Hall → HallRows → HallRows → Type 0
  Makes sql params before was now =
      (old new : C) → IsWithin (shows old) before was → (count : ℕ) → ExecutesInside 0 sql params (shows old) (shows new) (Ok count) → IsWithin (shows new) before now

  -- The first statement makes this of the rows and shows one row, or it shows none and leaves them, and then the second one makes it.
  pub record Puts (set add : List ℕ) (params : Row) (makes : HallRows → HallRows) : Type 0 where
    pub puts : (before : Hall) (c : HallRows) (old new : C) → IsWithin (shows old) before c → (rows : List Row) → Shown set params (shows old) (shows new) rows
        → (IsWithin (shows new) before c × Makes add params before c (makes c) × (length rows ≡ 0)) ⊎ (IsWithin (shows new) before (makes c) × (length rows ≡ 1))
