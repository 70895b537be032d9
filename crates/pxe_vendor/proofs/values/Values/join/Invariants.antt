use Rattle.std.proofs.Common.{◌≡◌}
use Rattle.pxe_vendor.{specs.Values.values_of, proofs.ValuesLemmas.values_then}
use Rattle.pxe_vendor.proofs.values.Values.join.Given as goal

-- the values so far, and then those of the rest, are all of them
abbrev pub invariant-loop-code : goal.invariant-loop-code
invariant-loop-code l = values_then l.self (values_of l.code-iterator) ≡ values_of l.frame.entries
