-- Why carrying a hall over is the inverse of forgetting.
use Rattle.std.{proofs.{Common.{◌≡◌, ℕ, List, [], ◌∷◌, refl, sym, ap, ◌∙◌}, lemmas.Option.none-some}, specs.Prelude.{Bool, true, false, Option, Some, None, map, option_map, if◌then◌else◌}}
use Rattle.hall_types.specs.Rows.{at, numbers, put}
use Rattle.hall_types.specs.declared.change.RowWrite.TheVariants as write
use Rattle.hall_laws.specs.{Prelude.{Hall, Schema, applied, first, new_hall, second, written, Rows, gone, same_key, at-gone, at-no_rows, at-put, same_rows, RowWrite, Erase, Machine, some_is}, Migration.{IsMigrated, with_kind}, FirstSchema.{AllKeepFull, IsForgotten, KeepsFull, KeepsNoKind, without_kind}}

-- ---- carrying over

machine_again : (m : Machine) → KeepsFull m → with_kind (without_kind m) ≡ m
machine_again m full = ap (λ (kind : Option Erase). record m { erase = kind }) (sym full)

row_again : (row : Option Machine) → ((m : Machine) → row ≡ Some m → KeepsFull m) → option_map with_kind (option_map without_kind row) ≡ row
row_again None full = refl
row_again (Some m) full = ap (λ (x : Machine). Some x) (machine_again m (full m refl))

pub carried_again : (x h : Hall) → AllKeepFull x → IsForgotten x h → IsMigrated h x
carried_again x h full forgotten = record {
  was = ap (λ (g : Hall). g.schema) forgotten.others;
  machines = λ id. sym (ap (option_map with_kind) (forgotten.machines id) ∙ row_again (at x.machines id) (full id));
  others = ap (λ (schema : Schema). record x { schema = schema }) forgotten.was
      ∙ sym (ap (λ (g : Hall). record g { schema = second; machines = x.machines }) forgotten.others);
}

-- a hall is carried over to one hall only
pub carried_only : (h x y : Hall) → IsMigrated h x → IsMigrated h y → y ≡ x
carried_only h x y one other =
    let same : y.machines ≡ x.machines = same_rows y.machines x.machines (λ id. other.machines id ∙ sym (one.machines id)) in
    other.others ∙ (ap (λ (rows : Rows numbers Machine). record h { schema = second; machines = rows }) same ∙ sym one.others)

-- ---- forgetting

no_kind : (row : Option Machine) (m : Machine) → option_map without_kind row ≡ Some m → m.erase ≡ None
no_kind None m is = absurd (none-some m is)
no_kind (Some x) m is = sym (ap (λ (y : Machine). y.erase) (some_is (without_kind x) m is))

pub no_kinds : (x h : Hall) → IsForgotten x h → KeepsNoKind h
no_kinds x h forgotten = record {
  schema = ap (λ (g : Hall). g.schema) forgotten.others;
  kinds = λ id m is. no_kind (at x.machines id) m (sym (forgotten.machines id) ∙ is);
}

-- ---- new halls

pub no_machines : (schema : Schema) (admin digest : List ℕ) (id : ℕ) → at (new_hall schema admin digest).machines id ≡ None
no_machines schema admin digest id = at-no_rows numbers id (new_hall schema admin digest).machines refl

pub new_forgotten : (admin digest : List ℕ) → IsForgotten (new_hall second admin digest) (new_hall first admin digest)
new_forgotten admin digest = record {
  was = refl;
  machines = λ id. no_machines first admin digest id ∙ sym (ap (option_map without_kind) (no_machines second admin digest id));
  others = refl;
}

pub new_keeps_none : (admin digest : List ℕ) → KeepsNoKind (new_hall first admin digest)
new_keeps_none admin digest = no_kinds (new_hall second admin digest) (new_hall first admin digest) (new_forgotten admin digest)

-- ---- what is written

-- the row as the first schema has it
abbrev pub first_row : RowWrite → RowWrite
first_row (write.PutMachine m was) = write.PutMachine (without_kind m) was
first_row other = other

put_forgotten : (x h : Rows numbers Machine) (n : ℕ) (m : Machine) (id : ℕ) → at h id ≡ option_map without_kind (at x id)
    → at (put n (without_kind m) h) id ≡ option_map without_kind (at (put n m x) id)
put_forgotten x h n m id is =
    at-put h n (without_kind m) id ∙ (by (same_key numbers id n) ∙ sym (ap (option_map without_kind) (at-put x n m id)))
  where
    by : (b : Bool) → (if b then Some (without_kind m) else at h id) ≡ option_map without_kind (if b then Some m else at x id)
    by true = refl
    by false = is

gone_forgotten : (x h : Rows numbers Machine) (n id : ℕ) → at h id ≡ option_map without_kind (at x id)
    → at (gone n h) id ≡ option_map without_kind (at (gone n x) id)
gone_forgotten x h n id is = at-gone h n id ∙ (by (same_key numbers id n) ∙ sym (ap (option_map without_kind) (at-gone x n id)))
  where
    by : (b : Bool) → (if b then None else at h id) ≡ option_map without_kind (if b then None else at x id)
    by true = refl
    by false = is

row_forgotten : (row : RowWrite) (x h : Hall) → IsForgotten x h → IsForgotten (written row x) (written (first_row row) h)
row_forgotten (write.PutMachine m was) x h forgotten = record {
  was = forgotten.was;
  machines = λ id. put_forgotten x.machines h.machines m.id m id (forgotten.machines id);
  others = ap (written (write.PutMachine (without_kind m) was)) forgotten.others;
}
row_forgotten (write.MachineGone n) x h forgotten = record {
  was = forgotten.was;
  machines = λ id. gone_forgotten x.machines h.machines n id (forgotten.machines id);
  others = ap (written (write.MachineGone n)) forgotten.others;
}
row_forgotten other x h forgotten = record { was = forgotten.was; machines = forgotten.machines; others = ap (written other) forgotten.others }

-- rows written as the first schema has them lead to the hall as the first schema has it
pub rows_forgotten : (rows : List RowWrite) (x h : Hall) → IsForgotten x h → IsForgotten (applied rows x) (applied (map first_row rows) h)
rows_forgotten [] x h forgotten = forgotten
rows_forgotten (row ∷ rows) x h forgotten = rows_forgotten rows (written row x) (written (first_row row) h) (row_forgotten row x h forgotten)
