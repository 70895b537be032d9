use Rattle.std.proofs.Common.{ℕ, List, subst}
use Rattle.hall_laws.{specs.{Prelude.{Hall, first, new_hall, second}, Step.{IsRun, Step}, FirstSchema.IsFirstRun}, proofs.{FirstRuns.{IsWhole, full_in, new_spares, next_is, run_append, typed_whole, whole_of}, Forgetting.{carried_again, new_forgotten}, Twins.twins_plain}}
use Rattle.hall_laws.proofs.migration.first_runs_go_on.Goals as goal

-- the run of the second schema of which a run of the first is what that schema has
whole : goal.After-steps_keep_halls_sound → (admin digest : List ℕ) (h : Hall) (steps : List Step)
    → IsFirstRun (new_hall first admin digest) steps h → IsWhole (new_hall second admin digest) steps h
whole c admin digest h steps run =
    whole_of c.steps_keep_halls_sound.ensures.step steps (new_hall second admin digest) (new_hall first admin digest) h
    (new_spares admin digest (c.new_halls_are_sound.ensures second admin digest)) (new_forgotten admin digest) run

pub returns : goal.returns
returns c = record {
  carried = λ admin digest h steps run.
      let w = whole c admin digest h steps run in
      (w.last, carried_again w.last h (full_in w.last w.holds) w.forgotten);
  next = λ admin digest h next steps run migrated.
      let w = whole c admin digest h steps run in
      (w.whole, subst (IsRun (new_hall second admin digest) w.whole) (next_is (new_hall second admin digest) h next steps w migrated) w.run, twins_plain w.whole steps w.twins);
  later = λ admin digest h next end steps more run migrated on.
      let w = whole c admin digest h steps run in
      let until = subst (IsRun (new_hall second admin digest) w.whole) (next_is (new_hall second admin digest) h next steps w migrated) w.run in
      (w.whole, run_append w.whole more (new_hall second admin digest) next end until on, twins_plain w.whole steps w.twins);
  sound = λ admin digest h next steps run migrated.
      let w = whole c admin digest h steps run in
      c.steps_keep_halls_sound.ensures.from_new admin digest next w.whole
      (subst (IsRun (new_hall second admin digest) w.whole) (next_is (new_hall second admin digest) h next steps w migrated) w.run);
  typed = typed_whole;
}
