use Rattle.std.proofs.Common.{◌∙◌, sym}
use Rattle.hall_report.{specs.Prelude.fields_of, proofs.ExportLemmas.{no_error, record_written}}
use Rattle.hall_report.proofs.export.write_record.Goals as goal

pub returns : goal.returns
returns c text has texts =
    let fine = sym c.is_err.ensures.value ∙ c.if-is_err.false in
    let call = c.write_byte_record in
    let values = c.as_byte_record.ensures in
    record_written c.args.writer.now call.new.self text (fields_of c.args.values.now) has texts
    (rw values at (no_error call.result _ fine call.ensures.bytes))
    (no_error call.result _ fine call.ensures.ended)
    (no_error call.result _ fine call.ensures.clean)
    (no_error call.result _ fine call.ensures.setup)
