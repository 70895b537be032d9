-- Laws of the table of the last numbers: what its statements ask and write.
use Rattle.sqlite.specs.Listing.{understood}
use Rattle.sqlite_tied.specs.Compute.{everything}
use Rattle.sql_schema.specs.{Words.{of_last, Error, Null, Int, Binary, Row, lit, op2, State, HasCleanDisk, Survives, Shown, FailsToQuery, CommitsShowing, Compare, Eq, Hall, Numbers, never_follows, IsTableRead, asked, within, and_true, parameter, cell, items_in_order, HallRows, sets, changes, hall_schema, hall_table, Update, from_one, only, IsCommandText, find_is}, Writing.Makes, declared.creating.TheConstants.FIND_NUMBERS}
use Rattle.std.proofs.Common.{◌≡◌, pos, List, [], ◌∷◌, true, Result, IfOk, IfErr, refl, ap, ◌∙◌, arith}
use Rattle.sql_schema.specs.ValueLaws as value
use Rattle.sql_items.specs.{Numbers.{last_values, schema_values, with_numbers}, declared.numbers.TheConstants.SET_NUMBERS}

-- the last numbers, changed
set_numbers_is : IsCommandText hall_schema SET_NUMBERS.now (Update 0 (only (from_one 0 (op2 (Compare Eq Binary) (cell 0) (lit (Int (pos 1))) ∷ []) (cell 0 ∷ cell 0 ∷ lit Null ∷ cell 2 ∷ parameter 0 ∷ parameter 1 ∷ parameter 2 ∷ []) [])))
unfolding understood everything
set_numbers_is = record { is = refl; plain = (refl, refl) }

-- the columns of the one row after its rowid
abbrev columns : Numbers → Row
columns last = Null ∷ schema_values last

-- the rows that the query shows: one, of the last numbers
pub reads_numbers : (old new : State) (r : Result (List Row) Error) → IfOk r (Shown FIND_NUMBERS.now [] old new) → IfErr r (FailsToQuery FIND_NUMBERS.now [] old new)
    → Survives old new (CommitsShowing FIND_NUMBERS.now [] old) → HasCleanDisk new → IsTableRead old new r (λ h rows. rows ≡ schema_values h.last ∷ [])
reads_numbers old new r ok err survives clean =
    asked FIND_NUMBERS.now [] (find_is of_last) old new (λ rows. rows) (λ h rows. rows ≡ schema_values h.last ∷ []) r ok err survives clean
    (λ h rows a spells.
    items_in_order (λ (last : Numbers). pos 1) columns [] [] (λ last. true) (λ last. refl) _ 0 (cell 2 ∷ cell 3 ∷ cell 4 ∷ cell 5 ∷ []) [] (spells.hall_rows.hall.last ∷ [])
    old.now.trees (spells.tables.each of_last) refl rows a (tt, tt)
    ∙ ap (λ (x : Hall). schema_values x.last ∷ []) spells.agrees.hall)

pub sets_numbers : {C : Type 0} (state_of : C → State) (last : Numbers) (before : Hall) (c : HallRows) → Makes state_of SET_NUMBERS.now (last_values last) before c (with_numbers c last)
sets_numbers state_of last before c one other held count ran =
    let old = state_of one in
    let new = state_of other in
    let it = changes (λ (last : Numbers). pos 1) columns hall_schema 0 hall_table refl old new held.spelt.schema (c.hall.last ∷ []) (held.spelt.tables.each of_last)
    (op2 (Compare Eq Binary) (cell 0) (lit (Int (pos 1))) ∷ []) (last_values last) (λ x. true)
    (λ x. and_true _ ∙ value.same_number (pos 1) (pos 1)) (tt, tt) refl (cell 0 ∷ lit Null ∷ cell 2 ∷ parameter 0 ∷ parameter 1 ∷ parameter 2 ∷ []) (omega arith) never_follows (λ x. last) (λ x. refl)
    (λ x. rw (value.cast-Int, value.cast-Null, value.cast-Int, value.cast-Int, value.cast-Int, value.cast-Int) refl) SET_NUMBERS.now set_numbers_is count ran.0 in
    within SET_NUMBERS.now (last_values last) old new before c _ count held ran (sets of_last old.now new.now c held.spelt _ last it refl)
