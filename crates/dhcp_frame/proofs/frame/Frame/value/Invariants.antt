use Rattle.std.proofs.Common.{◌≡◌}
use Rattle.dhcp_frame.specs.{Area.value_of, ValueLaws.joined_then}
use Rattle.dhcp_frame.proofs.frame.Frame.value.Given as goal

-- the values joined so far, and then those of the rest, are all of them
abbrev pub invariant-loop-other : goal.invariant-loop-other
invariant-loop-other l = joined_then l.joined (value_of l.code l.other-iterator) ≡ value_of l.code l.self.entries
