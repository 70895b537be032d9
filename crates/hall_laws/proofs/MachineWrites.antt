-- What holds of each machine of a hall, after rows are written.
use Rattle.std.{proofs.Common.{◌≡◌, ℕ, List, [], ◌∷◌, ◌++◌, sym, subst, inl, inr}, specs.{Prelude.{⊤, Some}, List.AllByRecursion}}
use Rattle.hall_laws.specs.Prelude.{Hall, applied, written, gone_found, put_cases, RowWrite, Machine}
use Rattle.hall_types.specs.Rows.{at}
use Rattle.hall_types.specs.declared.change.RowWrite.TheVariants as write

module _ (P : Machine → Type 0) where
  -- it holds of each machine
  abbrev pub EachIs : Hall → Type 0
  EachIs h = (id : ℕ) (m : Machine) → at h.machines id ≡ Some m → P m

  -- it holds of the machine that is written, if one is
  abbrev pub RowIs : RowWrite → Type 0
  RowIs (write.PutMachine m was) = P m
  RowIs other = ⊤

  abbrev pub RowsAre : List RowWrite → Type 0
  RowsAre rows = AllByRecursion RowIs rows

  pub rows_append : (rows more : List RowWrite) → RowsAre rows → RowsAre more → RowsAre (rows ++ more)
  rows_append [] more are also = also
  rows_append (row ∷ rows) more are also = (are.0, rows_append rows more are.1 also)

  written_is : (row : RowWrite) (h : Hall) → RowIs row → EachIs h → EachIs (written row h)
  written_is (write.PutMachine m was) h its each = λ id k is. elim (put_cases h.machines m.id m id k is) [
    | inl w ↦ subst P (sym w.1) its
    | inr w ↦ each id k w.1
  ]
  written_is (write.MachineGone gone_id) h its each = λ id k is. each id k (gone_found h.machines gone_id id k is).1
  written_is other h its each = each

  pub applied_are : (rows : List RowWrite) (h : Hall) → RowsAre rows → EachIs h → EachIs (applied rows h)
  applied_are [] h are each = each
  applied_are (row ∷ rows) h are each = applied_are rows (written row h) are.1 (written_is row h are.0 each)
