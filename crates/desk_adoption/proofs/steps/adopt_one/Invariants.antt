use Rattle.std.proofs.Common.{[], ◌∷◌}
use Rattle.desk_adoption.specs.{Adoption.{GoesOn}, Next.{IsAdoptionItem}}
use Rattle.desk_adoption.proofs.steps.adopt_one.Given as goal

-- what came so far is of the adoption
abbrev pub invariant-loop : goal.invariant-loop
invariant-loop g l = record {
  clean : g.S.HallStore.is_clean l.store → g.S.HallStore.is_clean l.fn.store;
  history : g.S.HallStore.is_clean l.store → GoesOn g.S.HallStore l.fn.store l.store (IsAdoptionItem l.place l.adopters (l.server ∷ []) l.moment);
}
