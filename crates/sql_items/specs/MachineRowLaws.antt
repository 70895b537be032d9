-- Laws of rows of machines: what their columns make of them, and that a row is that of one machine, but for how its disks are erased.
use Rattle.sql_schema.specs.Words.{cast, cast_row, uncounted, machines_table, machine_columns, arch_number, truth_number, option_to_list, Value, Null, Text, Blob, Row, column, Hall, erase_number, at, status_number, Machine, number, or_null, same_truth, arch_by_number, erase_by_number, same_kind, status_by_number}
use Rattle.std.{proofs.Common.{◌≡◌, ℕ, pos, zero, suc, [], ◌∷◌, drop, length, map, Option, Some, None, option_map, refl, sym, ap, ap₂, ◌∙◌}, specs.Prelude.option_and_then}
use Rattle.sql_items.specs.MachineRows.{found_whole, in_row, number_values, row_values}
use Rattle.sqlite_schema.specs.declared.schema.Kind.{Kind}
use Rattle.sqlite.specs.Kind.TheVariants as kind
use Rattle.sql_schema.specs.ValueLaws as value

-- ---- a row is its columns

-- so many columns of a row, from one on
abbrev pub columns_from : ℕ → ℕ → Row → Row
columns_from at zero row = []
columns_from at (suc more) row = column row at ∷ columns_from (suc at) more row

shifted : (more at : ℕ) (x : Value) (row : Row) → columns_from (suc at) more (x ∷ row) ≡ columns_from at more row
shifted zero at x row = refl
shifted (suc more) at x row = ap (λ l. column row at ∷ l) (shifted more (suc at) x row)

pub all_columns : (row : Row) → row ≡ columns_from 0 (length row) row
all_columns [] = refl
all_columns (x ∷ row) = ap (λ l. x ∷ l) (all_columns row ∙ sym (shifted (length row) 0 x row))

-- ---- a column that may be NULL keeps its values

cast_optional : {X : Type 0} (k : Kind) (value : X → Value) → cast k Null ≡ Null → ((x : X) → cast k (value x) ≡ value x) → (o : Option X) → cast k (or_null value o) ≡ or_null value o
cast_optional k value null some None = null
cast_optional k value null some (Some x) = some x

optional_number : (o : Option ℕ) → cast kind.Integer (or_null number o) ≡ or_null number o
optional_number = cast_optional kind.Integer number value.cast-Null (λ n. value.cast-Int (pos n))

-- the columns of the table keep a machine's row
pub cast_machine : (m : Machine) → cast_row (uncounted machines_table) (number m.id ∷ machine_columns m) ≡ number m.id ∷ machine_columns m
cast_machine m =
    rw (value.cast-Int (pos m.id), value.cast-Null, value.cast-Int (pos (arch_number m.arch)), value.cast-Int (pos (status_number m.status)))
    (rw (cast_optional kind.Text Text refl (λ t. refl) m.owner, cast_optional kind.Text Text refl (λ t. refl) m.image, value.cast-Int (pos (truth_number m.tests)))
    (rw (cast_optional kind.Integer (λ x. number (status_number x)) value.cast-Null (λ x. value.cast-Int (pos (status_number x))) m.back)
    (rw (value.cast-Int (pos (truth_number m.locked)), value.cast-Int (pos m.version), optional_number m.deadline, optional_number m.boot, value.cast-Int (pos m.boots), optional_number m.waiting) refl)))

-- ---- and those of one machine

module _ {X : Type 0} (value : X → Value) (same : (a b : X) → value a ≡ value b → a ≡ b) where
  same_optional : ((a : X) → value a ≡ Null → ⊥) → (a b : Option X) → or_null value a ≡ or_null value b → a ≡ b
  same_optional some None None e = refl
  same_optional some None (Some b) e = absurd (some b (sym e))
  same_optional some (Some a) None e = absurd (some a e)
  same_optional some (Some a) (Some b) e = ap (λ x. Some x) (same a b e)

  same_list : (a b : Option X) → map value (option_to_list a) ≡ map value (option_to_list b) → a ≡ b
  same_list None None e = refl
  same_list None (Some b) e = cc
  same_list (Some a) None e = cc
  same_list (Some a) (Some b) e = ap (λ x. Some x) (same a b cc)

-- rows with the same first cell and the same others
pub same_cells : {x y : Value} {xs ys : Row} → x ≡ y → xs ≡ ys → x ∷ xs ≡ y ∷ ys
same_cells one others = ap₂ (λ z zs. z ∷ zs) one others

same_value : (a b : ℕ) → number a ≡ number b → a ≡ b
same_value a b e = cc

pub same_number : (a b : ℕ) → number_values a ≡ number_values b → a ≡ b
same_number a b e = same_value a b (ap (λ row. column row 0) e)

pub same_row : (a b : Machine) → row_values a ≡ row_values b → a ≡ b
same_row a b e =
    let pool : a.pool ≡ b.pool = cc in
    let but_erase : in_row a ≡ in_row b =
    rw (
      same_value a.id b.id (ap (λ row. column row 0) e),
      same_kind arch_by_number a.arch b.arch (same_value _ _ (ap (λ row. column row 1) e)),
      same_optional Blob (λ x y k. cc) (λ x k. cc) a.uuid b.uuid (ap (λ row. column row 2) e),
      pool,
      same_kind status_by_number a.status b.status (same_value _ _ (ap (λ row. column row 4) e)),
      same_optional Text (λ x y k. cc) (λ x k. cc) a.owner b.owner (ap (λ row. column row 5) e),
      same_optional Text (λ x y k. cc) (λ x k. cc) a.image b.image (ap (λ row. column row 6) e),
      same_truth a.tests b.tests (same_value _ _ (ap (λ row. column row 7) e)),
      same_optional (λ s. number (status_number s)) (λ x y k. same_kind status_by_number x y (same_value _ _ k)) (λ x k. cc) a.back b.back (ap (λ row. column row 8) e),
      same_truth a.locked b.locked (same_value _ _ (ap (λ row. column row 9) e)),
      same_value a.version b.version (ap (λ row. column row 10) e),
      same_optional number same_value (λ x k. cc) a.deadline b.deadline (ap (λ row. column row 11) e),
      same_optional number same_value (λ x k. cc) a.boot b.boot (ap (λ row. column row 12) e),
      same_value a.boots b.boots (ap (λ row. column row 13) e),
      same_optional number same_value (λ x k. cc) a.waiting b.waiting (ap (λ row. column row 14) e),
    ) refl in
    ap₂ (λ (m : Machine) erase. record m { erase = erase }) but_erase (same_list (λ x. number (erase_number x)) (λ x y k. same_kind erase_by_number x y (same_value _ _ k)) a.erase b.erase (ap (drop 15) e))

-- the machine that a hall records, once its row is joined with how its disks are erased
pub whole_again : (h : Hall) (o : Option Machine) → ((m : Machine) → o ≡ Some m → at h.machines m.id ≡ Some m) → found_whole h (option_map in_row o) ≡ o
whole_again h None recorded = refl
whole_again h (Some m) recorded = ap (λ x. Some (record m { erase = option_and_then (λ (y : Machine). y.erase) x })) (recorded m refl)
