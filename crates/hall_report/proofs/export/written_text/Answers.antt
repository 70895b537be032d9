use Rattle.std.{proofs.{Common.{◌≡◌, ◌∙◌, Some, ap, subst, sym}, lemmas.Bool.false≢true}, specs.Prelude.IsUtf8}
use Rattle.hall_report.proofs.export.written_text.Goals as goal

pub unreachable-requires : goal.unreachable-requires
unreachable-requires c =
    let text = c.requires.0 in
    let has = c.requires.1 in
    let held : Some c.in-Ok.octets.items ≡ Some text = ap Some c.in-Ok.ensures.ok ∙ has.text_is in
    let same : c.in-Ok.octets.items ≡ text = cc in
    false≢true (c.in-Err.ensures.succeeds (subst IsUtf8 (sym same) has.is_text))
