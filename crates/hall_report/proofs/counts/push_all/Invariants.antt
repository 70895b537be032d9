use Rattle.std.{proofs.Common.{◌≡◌, ◌++◌, string_bytes, take}, specs.List.flat_map}
use Rattle.hall_report.specs.Lines.{count_line}
use Rattle.hall_report.proofs.counts.push_all.Given as goal

-- after the header stand the counts so far
abbrev pub invariant-loop-count : goal.invariant-loop-count
invariant-loop-count l = string_bytes l.text ≡ string_bytes l.initial.text ++ flat_map count_line (take l.count-index l.counts)
