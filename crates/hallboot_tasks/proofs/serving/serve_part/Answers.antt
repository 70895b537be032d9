use Rattle.serve_sockets.proofs.TurnLemmas.{keeps_same, keeps_then}
use Rattle.hallboot_tasks.proofs.ServedLemmas.{goes_none, goes_of, goes_then}
use Rattle.hallboot_tasks.proofs.serving.serve_part.Goals as goal

pub loop-init : goal.loop-init
loop-init g c = record { kept = keeps_same g.S.HallStore _; goes = λ clean. goes_none g.S.HallStore _ _ }

pub loop-preserved : goal.loop-preserved
loop-preserved g c = record {
  kept = keeps_then g.S.HallStore _ _ _ c.loop.invariant.kept c.serve_turns.ensures.kept;
  goes = λ clean.
      let before = c.loop.invariant in
      goes_then g.S.HallStore _ _ _ _ _ before.kept.site (before.goes (c.serve_turns.ensures.kept.clean clean)) (goes_of g.S.HallStore _ _ _ (c.serve_turns.ensures.went_on clean));
}

pub returns-in-Some-clause-kept : goal.returns-in-Some-clause-kept
returns-in-Some-clause-kept g c = keeps_then g.S.HallStore _ _ _ c.loop.invariant.kept c.serve_turns.ensures.kept

pub returns-in-Some-clause-goes : goal.returns-in-Some-clause-goes
returns-in-Some-clause-goes g c = λ clean.
    let before = c.loop.invariant in
    goes_then g.S.HallStore _ _ _ _ _ before.kept.site (before.goes (c.serve_turns.ensures.kept.clean clean)) (goes_of g.S.HallStore _ _ _ (c.serve_turns.ensures.went_on clean))

pub returns-then-is_gone-clause-kept : goal.returns-then-is_gone-clause-kept
returns-then-is_gone-clause-kept g c = keeps_then g.S.HallStore _ _ _ c.loop.invariant.kept c.serve_turns.ensures.kept

pub returns-then-is_gone-clause-goes : goal.returns-then-is_gone-clause-goes
returns-then-is_gone-clause-goes g c = λ clean.
    let before = c.loop.invariant in
    goes_then g.S.HallStore _ _ _ _ _ before.kept.site (before.goes (c.serve_turns.ensures.kept.clean clean)) (goes_of g.S.HallStore _ _ _ (c.serve_turns.ensures.went_on clean))
