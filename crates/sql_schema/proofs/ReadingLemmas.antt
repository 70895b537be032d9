-- What a query that is known promises, once its rows are read as items.
use Rattle.sql_schema.specs.{Words.{Error, Row, State, HasCleanDisk, Survives, Shown, FailsToQuery, CommitsShowing, Hall, IsTableRead, asked, asked_then, asked_failed}, Asking.Asks}
use Rattle.std.proofs.Common.{◌≡◌, ℕ, List, [], ◌∷◌, map, Ok, Err, Result, IfOk, refl, ap₂}

-- rows are those of one list of items
pub same_items : {X : Type 0} (values : X → Row) → ((a b : X) → values a ≡ values b → a ≡ b) → (xs ys : List X) → map values xs ≡ map values ys → xs ≡ ys
same_items values single [] [] e = refl
same_items values single [] (y ∷ ys) e = cc
same_items values single (x ∷ xs) [] e = cc
same_items values single (x ∷ xs) (y ∷ ys) e =
    let first : values x ≡ values y = cc in
    let rest : map values xs ≡ map values ys = cc in
    ap₂ (λ z zs. z ∷ zs) (single x y first) (same_items values single xs ys rest)

module _ {X Y : Type 0} (values : X → Row) (sql : List ℕ) (params : Row) (right : Hall → List X) (it : Asks values sql params right) (old new : State) (clean : HasCleanDisk new)
    (survives : Survives old new (CommitsShowing sql params old)) (Reads : Hall → Y → Type 0) where
  abbrev Right : Hall → List Row → Type 0
  Right h rows = rows ≡ map values (right h)

  pub items_read : (rows : List Row) → Shown sql params old new rows → (r : Result Y Error) → IfOk r (λ y. (h : Hall) → rows ≡ map values (right h) → Reads h y) → IsTableRead old new r Reads
  items_read rows shown r gives =
      asked_then old new Right Reads rows r
      (asked sql params it.is old new (λ rows. rows) Right (Ok rows) shown tt survives clean (λ h rows got spelt. it.answers old.now.trees h spelt rows got)) gives

  pub items_refused : (e : Error) → FailsToQuery sql params old new e → IsTableRead old new {Y = Y} (Err e) Reads
  items_refused e fails =
      asked_failed old new Right Reads e
      (asked sql params it.is old new (λ rows. rows) Right (Err e) tt fails survives clean (λ h rows got spelt. it.answers old.now.trees h spelt rows got))
