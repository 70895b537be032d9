use Rattle.std.proofs.Common.{◌≡◌, ◌∙◌, subst}
use Rattle.desk_operations.{specs.{Prelude.{site_of, store_of, import_in}, Import.{GoOnBy, SettlesByAll}}, proofs.ImportLemmas.{if_err_of, in_turn_none, kept_on, ok_rows, read_rows, rows_left, stopped_none}}
use Rattle.desk_operations.proofs.imports.import.Goals as goal

pub returns-in_err-rows-clause-stopped : goal.returns-in_err-rows-clause-stopped
returns-in_err-rows-clause-stopped g c = λ clean.
    if_err_of c.from_residual.result _ _ c.from_residual.ensures.1 (λ rows are h held sound.
    stopped_none g.S.HallStore (site_of c.args.desk.now) c.args.bearer c.args.moment (store_of c.args.desk.now) h rows _
    (g.W.Write.contents c.args.writer.now) held sound)

pub returns-in_err-rows-clause-history : goal.returns-in_err-rows-clause-history
returns-in_err-rows-clause-history g c = λ clean.
    kept_on g.S.HallStore (site_of c.args.desk.now) c.args.bearer c.args.moment (store_of c.args.desk.now) (store_of c.args.desk.now) (λ h held. held)

pub returns-in_err-rows-clause-in_turn : goal.returns-in_err-rows-clause-in_turn
returns-in_err-rows-clause-in_turn g c = λ clean rows is.
    in_turn_none (site_of c.args.desk.now) c.args.bearer c.args.moment g.S.HallStore (store_of c.args.desk.now) rows

pub returns-in_err-rows-clause-stop : goal.returns-in_err-rows-clause-stop
returns-in_err-rows-clause-stop g c = λ clean rows is.
    rows_left (site_of c.args.desk.now) c.args.bearer c.args.moment g.S.HallStore (store_of c.args.desk.now) (store_of c.args.desk.now) rows
    (returns-in_err-rows-clause-in_turn g c clean rows is)

pub returns-clause-in_turn : goal.returns-clause-in_turn
returns-clause-in_turn g c = λ clean rows is.
    let same : c.deref.result.now ≡ rows = c.deref.ensures.value ∙ read_rows (import_in c.args.octets.now) c.in_ok-rows.rows.items rows c.in_ok-rows.ensures is in
    subst (GoOnBy g.S.HallStore (store_of c.args.desk.now) (store_of c.add_rows.new.desk) (site_of c.args.desk.now) c.args.bearer c.args.moment) same
    (c.add_rows.ensures.in_turn clean)

pub returns-clause-stop : goal.returns-clause-stop
returns-clause-stop g c = λ clean rows is.
    rows_left (site_of c.args.desk.now) c.args.bearer c.args.moment g.S.HallStore (store_of c.args.desk.now) (store_of c.add_rows.new.desk) rows
    (returns-clause-in_turn g c clean rows is)

pub returns-clause-settled : goal.returns-clause-settled
returns-clause-settled g c = λ clean.
    ok_rows c.add_rows.result (import_in c.args.octets.now) c.deref.result.now c.in_ok-rows.rows.items c.deref.ensures.value c.in_ok-rows.ensures
    (SettlesByAll g.S.HallStore (store_of c.args.desk.now) (store_of c.add_rows.new.desk) (site_of c.args.desk.now) c.args.bearer c.args.moment)
    (c.add_rows.ensures.settled clean)
