use Rattle.std.{proofs.{Common.{◌≡◌, ◌==◌, ◌++◌, ◌∙◌, filter, ap, subst, IfOk, string_bytes, List, [], sym}, lemmas.List.{append-nil, take_all}}, specs.List.flat_map}
use Rattle.csv.specs.Records.{AllText}
use Rattle.hall_report.{specs.{Prelude.{fields_of, Interface, Machine}, Export.{HasWritten, header, machine_fields, record_text}}, proofs.ExportLemmas.{machine_written, none_written}}
use Rattle.hall_report.proofs.export.sorted_export.Goals as goal

pub loop-machine-init : goal.loop-machine-init
loop-machine-init c =
    let from = c.from_writer-writer.ensures in
    let start = none_written c.from_writer-writer.result c.new-2.result from.wtr c.new-2.ensures.items from.empty (from.cfg ∙ c.new.ensures) from.fields from.wrote in
    let one = c.in_ok-write_record.ensures [] start (subst (λ values. AllText (fields_of values)) c.write_record.view_is c.write_record.invariant) in
    subst (λ text. HasWritten c.write_record-2.new.writer text) (ap record_text c.in_ok-header_record.ensures ∙ sym (append-nil (record_text header))) one

pub loop-machine-preserved : goal.loop-machine-preserved
loop-machine-preserved c =
    let ms = c.args.machines.now in
    let m = c.machine-item.result in
    machine_written c.write_record-in-loop-machine-2.new.writer (λ (m : Machine). record_text (machine_fields m (filter (λ (i : Interface). i.machine == m.id) c.args.interfaces.now)))
    (record_text header) (record_text (fields_of c.in_ok-machine_record.field-0)) ms c.loop-machine.machine-index m c.loop-machine-test.true c.machine-item.is
    (ap record_text (c.in_ok-machine_record.ensures ∙ ap (λ (own : List Interface). machine_fields m own) c.own_interfaces-own.ensures))
    (c.in_ok-write_record-2.ensures _ c.loop-machine.invariant
    (subst (λ values. AllText (fields_of values)) c.write_record-in-loop-machine.view_is c.write_record-in-loop-machine.invariant))

pub written_text-requires : goal.written_text-requires
written_text-requires c = (_, c.loop-machine.invariant)

pub returns : goal.returns
returns c =
    subst (λ ms. IfOk c.written_text.result (λ text. string_bytes text ≡ record_text header
    ++ flat_map (λ (m : Machine). record_text (machine_fields m (filter (λ (i : Interface). i.machine == m.id) c.args.interfaces.now))) ms))
    (take_all c.loop-machine.machine-index c.args.machines.now c.loop-machine-test.false) (c.written_text.ensures _ c.loop-machine.invariant)
