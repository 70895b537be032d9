-- The rows of an import, one after the other.
use Rattle.std.proofs.Common.{◌≡◌, ◌<◌, ◌+◌, ℕ, List, [], ◌∷◌, ◌++◌, Some, Result, Ok, Err, length, drop, map, get_or, refl, sym, ap, ◌∙◌, append_assoc, add-one, drop-cons, suc}
use Rattle.hall_report.specs.{Prelude.{Row, fields_of}, Import.{row_of, rows_from, with_ok}, declared.{fault.ImportFault.ImportFault, row.ImportRow.ImportRow}}

regrouped : (rows : List ImportRow) (row : ImportRow) (later : Result (List ImportRow) ImportFault)
    → with_ok (λ more. (rows ++ row ∷ []) ++ more) later ≡ with_ok (λ more. rows ++ more) (with_ok (λ more. row ∷ more) later)
regrouped rows row (Ok more) = ap Ok (append_assoc rows (row ∷ []) more)
regrouped rows row (Err fault) = refl

-- a good record's row stands before the later ones
good_row : (number : ℕ) (fields : List (List ℕ)) (row : ImportRow) (rows : List ImportRow) (later : List (List (List ℕ)))
    → row_of fields ≡ Some row
    → with_ok (λ more. (rows ++ row ∷ []) ++ more) (rows_from (number + 1) later) ≡ with_ok (λ more. rows ++ more) (rows_from number (fields ∷ later))
unfolding rows_from
good_row number fields row rows later good = rw good (regrouped rows row (rows_from (number + 1) later))

-- the rows so far with one more
pub more_rows : (later : List Row) (column : ℕ) (one : Row) (row : ImportRow) (rows new : List ImportRow) (all : Result (List ImportRow) ImportFault)
    → column < length later → one ≡ get_or later column one → Some row ≡ row_of (fields_of one) → new ≡ rows ++ row ∷ []
    → with_ok (λ more. rows ++ more) (rows_from (column + 1) (map fields_of (drop column later))) ≡ all
    → with_ok (λ more. new ++ more) (rows_from (column + 1 + 1) (map fields_of (drop (column + 1) later))) ≡ all
more_rows later column one row rows new all inside at good pushed so_far =
    let here : drop column later ≡ one ∷ drop (column + 1) later =
    rw add-one (drop-cons later column one inside ∙ ap (λ (first : Row). first ∷ drop (suc column) later) (sym at)) in
    rw pushed (good_row (column + 1) (fields_of one) row rows (map fields_of (drop (column + 1) later)) (sym good)
    ∙ ap (λ (values : List Row). with_ok (λ more. rows ++ more) (rows_from (column + 1) (map fields_of values))) (sym here) ∙ so_far)
