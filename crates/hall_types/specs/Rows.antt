-- Rows by their key.
use Rattle.std.specs.{Prelude.{ℕ, List, Option, Some, None, Bool, true, false}, declared.cmp.Ordering.Ordering, Ordering.{nat_cmp, eq_by_cmp}, Cmp.{IsTotalOrder, nat_cmp_total, Lexicographic.{slice_cmp, nat_list_cmp_total, lists_total}}, FinMap.{FinMap, IsAntisymmetric, nat_cmp-IsAntisymmetric, slice_cmp-IsAntisymmetric}}
use Rattle.std.specs.FinMap as map

-- an order of keys, in which the keys that tie are the same
pub record Keys (K : Type 0) : Type 0 where
  pub cmp : K → K → Ordering
  pub total : IsTotalOrder cmp
  pub same : IsAntisymmetric cmp

unfoldable pub numbers : Keys ℕ
numbers = record { cmp = nat_cmp; total = nat_cmp_total; same = nat_cmp-IsAntisymmetric }

-- names, addresses and digests, in the order of their octets
unfoldable pub texts : Keys (List ℕ)
texts = record { cmp = slice_cmp nat_cmp; total = nat_list_cmp_total; same = slice_cmp-IsAntisymmetric nat_cmp-IsAntisymmetric }

-- pairs, as lists of their two parts
unfoldable pub pairs : Keys (List (List ℕ))
pairs = record {
  cmp = slice_cmp (slice_cmp nat_cmp);
  total = lists_total nat_list_cmp_total;
  same = slice_cmp-IsAntisymmetric (slice_cmp-IsAntisymmetric nat_cmp-IsAntisymmetric);
}

-- rows by their key
pub record Rows {K : Type 0} (keys : Keys K) (X : Type 0) : Type 0 where
  pub map : FinMap keys.cmp X

-- whether there is a row, and it passes
abbrev pub passes : {X : Type 0} → (X → Bool) → Option X → Bool
passes p None = false
passes p (Some row) = p row

module _ {K X : Type 0} {keys : Keys K} where
  -- the row with this key
  unfoldable pub at : Rows keys X → K → Option X
  at rows key = map.get rows.map key

  -- with this row at this key
  unfoldable pub put : K → X → Rows keys X → Rows keys X
  put key row rows = record { map = map.insert rows.map key row }

  -- without the row at this key
  unfoldable pub gone : K → Rows keys X → Rows keys X
  gone key rows = record { map = map.remove rows.map key }

  unfoldable pub no_rows : Rows keys X
  no_rows = record { map = map.empty }

  -- the rows that pass
  unfoldable pub rows_where : (X → Bool) → Rows keys X → Rows keys X
  rows_where p rows = record { map = map.retain_keys rows.map (λ key. passes p (map.get rows.map key)) }

  -- all rows, in the order of their keys
  unfoldable pub listed : Rows keys X → List X
  listed rows = map.values rows.map

-- whether two keys are the same
abbrev pub same_key : {K : Type 0} → Keys K → K → K → Bool
same_key keys one other = eq_by_cmp keys.cmp one other

abbrev pub one_if : Bool → ℕ
one_if true = 1
one_if false = 0

-- how many rows there are
unfoldable pub size : {K X : Type 0} {keys : Keys K} → Rows keys X → ℕ
size rows = map.len rows.map

-- how many rows pass
abbrev pub how_many : {K X : Type 0} {keys : Keys K} → (X → Bool) → Rows keys X → ℕ
how_many p rows = size (rows_where p rows)
