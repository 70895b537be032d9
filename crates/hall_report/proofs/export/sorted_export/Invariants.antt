use Rattle.std.{proofs.Common.{◌==◌, ◌++◌, filter, take}, specs.List.flat_map}
use Rattle.hall_report.specs.Export.{HasWritten, header, machine_fields, record_text}
use Rattle.hall_report.proofs.export.sorted_export.Given as goal

-- after the header the machines so far were written
abbrev pub invariant-loop-machine : goal.invariant-loop-machine
invariant-loop-machine l =
    HasWritten l.writer (record_text header
    ++ flat_map (λ m. record_text (machine_fields m (filter (λ i. i.machine == m.id) l.interfaces))) (take l.machine-index l.machines))
