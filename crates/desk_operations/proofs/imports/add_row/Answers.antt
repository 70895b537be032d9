use Rattle.std.proofs.{Common.{◌≡◌, ◌∙◌, ap, string_bytes}, KnownBytes.Appends-nil}
use Rattle.desk_operations.{specs.{Prelude.{site_of, store_of}, Import.{is_ok, row_line}}, proofs.ImportLemmas.{if_err_of, row_done, row_refused, row_stopped}}
use Rattle.desk_operations.proofs.imports.add_row.Goals as goal

pub returns-in_err-reply-clause-stopped : goal.returns-in_err-reply-clause-stopped
returns-in_err-reply-clause-stopped g c = λ clean.
    if_err_of c.from_residual.result _ _ c.from_residual.ensures.1 (λ h held sound.
    row_refused g.S.HallStore (site_of c.args.desk.now) c.args.bearer c.args.moment
    (store_of c.answer_row.new.desk) h c.args.row.now _ (g.W.Write.contents c.args.writer.now) (c.in_err-reply.ensures.missed clean h held) sound)

pub returns-in_default-clause-stopped : goal.returns-in_default-clause-stopped
returns-in_default-clause-stopped g c = λ clean h held sound.
    row_stopped g.S.HallStore (site_of c.args.desk.now) c.args.bearer c.args.moment
    (store_of c.answer_row.new.desk) c.args.row.now _ _ (g.W.Write.contents c.args.writer.now) (g.W.Write.contents c.args.writer.now)
    (λ other. Appends-nil (g.W.Write.contents c.args.writer.now)) h (c.in_ok-reply.ensures.answered clean h held sound)

pub returns-in_err-line-clause-stopped : goal.returns-in_err-line-clause-stopped
returns-in_err-line-clause-stopped g c = λ clean.
    if_err_of c.from_residual-in_err-line.result _ _ c.from_residual-in_err-line.ensures.1 (λ h held sound.
    row_stopped g.S.HallStore (site_of c.args.desk.now) c.args.bearer c.args.moment
    (store_of c.answer_row.new.desk) c.args.row.now _ _ (g.W.Write.contents c.args.writer.now) (g.W.Write.contents c.args.writer.now)
    (λ other. Appends-nil (g.W.Write.contents c.args.writer.now)) h (c.in_ok-reply.ensures.answered clean h held sound))

pub returns-in_err-write_text-clause-stopped : goal.returns-in_err-write_text-clause-stopped
returns-in_err-write_text-clause-stopped g c = λ clean.
    if_err_of c.from_residual-in_err-write_text.result _ _ c.from_residual-in_err-write_text.ensures.1 (λ h held sound.
    row_stopped g.S.HallStore (site_of c.args.desk.now) c.args.bearer c.args.moment
    (store_of c.answer_row.new.desk) c.args.row.now _ _ (g.W.Write.contents c.args.writer.now) (g.W.Write.contents c.write_text.new.writer)
    (λ other. absurd (other c.in_err-write_text.ensures.fault)) h (c.in_ok-reply.ensures.answered clean h held sound))

pub returns-clause-done : goal.returns-clause-done
returns-clause-done g c = λ clean h held sound.
    let text : c.as_str-2.result.now ≡ string_bytes c.in_ok-line.line = c.as_str-2.ensures.value in
    let line : string_bytes c.in_ok-line.line ≡ row_line c.args.number c.in-Http.status c.as_str.result.now = c.in_ok-line.ensures in
    let said : c.as_str-2.result.now ≡ row_line c.args.number c.in-Http.status c.in-Http.body = cc in
    row_done g.S.HallStore (site_of c.args.desk.now) c.args.bearer c.args.moment
    (store_of c.answer_row.new.desk) c.args.row.now _ c.in-Http.status c.in-Http.kind c.in-Http.body c.in-Http.is
    c.args.number (g.W.Write.contents c.args.writer.now) (g.W.Write.contents c.write_text.new.writer) c.as_str-2.result.now said c.in_ok-write_text.ensures.written
    h (c.in_ok-reply.ensures.answered clean h held sound)

pub returns-clause-settled : goal.returns-clause-settled
returns-clause-settled g c = λ clean ok. c.in_ok-reply.ensures.settled clean (ap is_ok c.in-Http.is ∙ ok)
