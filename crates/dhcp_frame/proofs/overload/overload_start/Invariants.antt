use Rattle.std.proofs.Common.{◌≡◌}
use Rattle.dhcp_frame.specs.{Area.{value_of, entries_of}, Start.{start_of, start_with}}
use Rattle.dhcp_frame.proofs.overload.overload_start.Given as goal

-- the start so far, and then the values of the rest, give the whole start
abbrev pub invariant-loop-code : goal.invariant-loop-code
invariant-loop-code l =
    start_with l.start (value_of 52 l.code-iterator) ≡ start_of (value_of 52 (entries_of l.options))
