use Rattle.desk_adoption.specs.{Adoption.{GoesOn}, Next.{IsAdoptionItem}}
use Rattle.desk_adoption.proofs.adopting.adopt_each.Given as goal

-- what came so far is of the adoption
abbrev pub invariant-loop-server : goal.invariant-loop-server
invariant-loop-server g l = record {
  clean : g.S.HallStore.is_clean l.store → g.S.HallStore.is_clean l.fn.store;
  history : g.S.HallStore.is_clean l.store → GoesOn g.S.HallStore l.fn.store l.store (IsAdoptionItem l.place l.adopters l.servers l.moment);
}
