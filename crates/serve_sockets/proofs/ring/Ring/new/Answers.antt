use Rattle.std.proofs.Common.{◌≡◌, ◌+◌, Bool, List, replicate, subst, sym}
use Rattle.serve_sockets.{specs.Marks.{AreCounts, count_set}, proofs.MarksLemmas.{count_new, counts_new}}
use Rattle.serve_sockets.proofs.ring.Ring.new.Goals as goal

pub invariant_of-result-clause-counted : goal.invariant_of-result-clause-counted
invariant_of-result-clause-counted c =
    subst (λ (marks : List Bool). AreCounts marks (replicate 17 0)) (sym (c.in_ok-ready.ensures.items_if_clones_equal (λ y is. is))) (counts_new (c.args.places + 3))

pub invariant_of-result-clause-all : goal.invariant_of-result-clause-all
invariant_of-result-clause-all c =
    subst (λ (marks : List Bool). 0 ≡ count_set marks 0 1027) (sym (c.in_ok-ready.ensures.items_if_clones_equal (λ y is. is))) (sym (count_new (c.args.places + 3) 0 1027))
