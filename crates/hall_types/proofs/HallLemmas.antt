-- What changes make of a hall.
use Rattle.std.{proofs.{Common.{◌≡◌, ◌≢◌, ◌↔◌, ℕ, not, Some, ap}, lemmas.Bool.{both_ways, ne_eqb, eq-eqb}}, specs.Prelude.◌==◌}
use Rattle.hall_types.specs.{Rows.{Keys, Rows, at, rows_where}, RowLaws.{where_found, where_kept}}

-- the rows that aren't of one machine
pub others : {K X : Type 0} {keys : Keys K} (machine : X → ℕ) (id : ℕ) (rows : Rows keys X) (key : K) (x : X) →
    (at (rows_where (λ row. not (machine row == id)) rows) key ≡ Some x) ↔ ((at rows key ≡ Some x) × (machine x ≢ id))
others machine id rows key x = (left, right)
  where
    left : at (rows_where (λ row. not (machine row == id)) rows) key ≡ Some x → (at rows key ≡ Some x) × (machine x ≢ id)
    left is =
        let found = where_found (λ row. not (machine row == id)) rows key x is in
        (found.0, λ same. both_ways (not (machine x == id)) (ap not (eq-eqb (machine x) id same)) found.1)

    right : (at rows key ≡ Some x) × (machine x ≢ id) → at (rows_where (λ row. not (machine row == id)) rows) key ≡ Some x
    right h = where_kept (λ row. not (machine row == id)) rows key x h.0 (ap not (ne_eqb (machine x) id h.1))
