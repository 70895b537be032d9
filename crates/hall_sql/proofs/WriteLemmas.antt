-- A row write that leaves the machines as they are.
use Rattle.sql_schema.specs.{Words.{State, HasCleanDisk, Rows, numbers, at, how_many, Hall, written, RowWrite, Machine, HallRows, is_in, wipe_of}, Steps.IsWritten, StepLaws.gives}
use Rattle.std.{proofs.Common.{◌≡◌, Result, sym, ap, subst, ◌∙◌}, specs.Prelude.option_and_then}
use Rattle.hall_store.specs.{Rules.Keeps, Versions.HasVersion}
use Rattle.hall_sql.specs.Within.{IsRowWritten}

-- a table's write is the write of a row: the rows are the hall with the row, its counts and its kinds of erasing stay
pub writes_row : {Y E : Type 0} {old new : State} {r : Result Y E} {write : RowWrite} {may : HallRows → Type 0} (w : RowWrite) → write ≡ w → ((x : Hall) → (written w x).machines ≡ x.machines) → ((h : Hall) → HasVersion w h)
    → ((c : HallRows) → Keeps w c.hall → may c) → (HasCleanDisk new → IsWritten old new r may (λ c. record c { hall = written w c.hall })) → HasCleanDisk new → IsRowWritten old new r write
writes_row {old = old} {new = new} {r = r} w is stays version allowed step clean =
    rw is (gives _ r (step clean) (λ y made before h held keeps. (
      record {
        hall_rows = record held.hall_rows { hall = written w held.hall_rows.hall };
        within = made before held.hall_rows held.within (allowed held.hall_rows (subst (Keeps w) (sym held.agrees.hall) keeps));
        agrees = record {
          hall = ap (written w) held.agrees.hall;
          counts = λ pool status. held.agrees.counts pool status ∙ sym (ap (λ (rows : Rows numbers Machine). how_many (is_in pool status) rows) (stays h));
          wipes = λ id. held.agrees.wipes id ∙ sym (ap (λ (rows : Rows numbers Machine). option_and_then wipe_of (at rows id)) (stays h));
        };
      },
      version h,
    )))
