use Rattle.std.proofs.Common.{◌≡◌, ◌≤◌, ◌*◌, ◌^◌, sum_by, take}
use Rattle.hall_report.proofs.counts.total_of.Given as goal

-- the sum of the counts so far, each of which has 64 bits
abbrev pub invariant-loop-count : goal.invariant-loop-count
invariant-loop-count l = (l.total ≡ sum_by (λ c. c.machines) (take l.count-index l.counts)) × (l.total ≤ l.count-index * 2 ^ 64)
