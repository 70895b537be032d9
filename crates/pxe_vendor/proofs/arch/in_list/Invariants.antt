use Rattle.std.{proofs.Common.◌≡◌, specs.Slice.Iter.{chunks_exact_rest, chunks_exact_size}}
use Rattle.pxe_vendor.specs.Arch.{numbers_of, first_known}
use Rattle.pxe_vendor.proofs.arch.in_list.Given as goal

-- the numbers so far are unknown
abbrev pub invariant-loop-pair : goal.invariant-loop-pair
invariant-loop-pair l = record {
  size : chunks_exact_size l.pair-iterator ≡ 2;
  known : first_known (numbers_of (chunks_exact_rest l.pair-iterator)) ≡ first_known (numbers_of l.octets);
}
