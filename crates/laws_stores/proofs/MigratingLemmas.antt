-- A hall of the first schema that was carried over, by the words of the model and by those of the tables; and what comes to it.
use Rattle.std.{proofs.Common.{◌≡◌, ◌⊎◌, ℕ, List, [], ◌∷◌, Option, Some, None, Result, Ok, Err, inl, inr, refl, ap, ◌∙◌}, specs.Prelude.{IfOk, if◌then◌else◌, option_map}}
use Rattle.life_cycle.specs.Entering.{keeps_erase}
use Rattle.laws_stores.specs.{Prelude.{Trees, Hall, first, new_hall, at, Full, Machine, Status, New, IsMigrated, with_kind, Step, IsFirstRun, carried_over, AllLead, BeginsWith, Item, Origin, Headline, SpellHall, BecomeHall, IsCarriedOver, SpellFirst, is_erasing, with_full, Ghosts}, Migrating.GoesOn}

-- ---- the same statuses

same_statuses : (s : Status) → keeps_erase s ≡ is_erasing s
unfolding keeps_erase
same_statuses New = refl
same_statuses other = refl

same_kind : (m : Machine) → with_kind m ≡ with_full m
same_kind m = ap (λ b. record m { erase = if b then Some Full else m.erase }) (same_statuses m.status)

same_machine : (o : Option Machine) → option_map with_kind o ≡ option_map with_full o
same_machine None = refl
same_machine (Some m) = ap (λ k. Some k) (same_kind m)

over_of : (h next : Hall) → IsMigrated h next → IsCarriedOver h next
over_of h next is = record { was = is.was; machines = λ id. is.machines id ∙ same_machine (at h.machines id); others = is.others }

-- ---- the history goes on

-- the laws that the history relies on
abbrev pub Keeps : Type 0
Keeps = (origin : Origin) (begin : Hall) (items : List Item) (end : Hall) → BeginsWith origin begin → AllLead begin items end → Headline origin items end

module _ (keeps : Keeps) (admin digest : List ℕ) (steps : List Step) (db : Trees) (h next : Hall) (run : IsFirstRun (new_hall first admin digest) steps h) (spelt : SpellFirst db h) (over : IsMigrated h next) where
  pub become : BecomeHall db next
  become = inr (h, spelt, over_of h next over)

  pub begun : Headline (carried_over admin digest steps) [] next
  begun = keeps (carried_over admin digest steps) next [] next (h, run, over) refl

pub goes_on : {S F M : Type 0} (g : Ghosts S) (db : Trees) (r : Result (S × M) F) → Keeps
    → IfOk r (λ done. g.is_clean done.0 → (h : Hall) → BecomeHall db h → g.holds done.0 h) → IfOk r (λ done. g.is_clean done.0 → (h : Hall) → BecomeHall db h → g.leaves done.0 (h ∷ []))
    → IfOk r (λ done. g.is_clean done.0 → (admin digest : List ℕ) (steps : List Step) (h next : Hall) → IsFirstRun (new_hall first admin digest) steps h → SpellFirst db h → IsMigrated h next
    → GoesOn g done.0 (carried_over admin digest steps) next)
goes_on g db (Ok done) keeps held settled = λ is admin digest steps h next run spelt over.
    let become = become keeps admin digest steps db h next run spelt over in
    record {
      held = held is next become;
      left = settled is next become;
      begun = record {
        history = record { end = next; held = held is next become; headline = begun keeps admin digest steps db h next run spelt over };
        settled = settled is next become;
      };
      laws = λ items end led. keeps (carried_over admin digest steps) next items end (h, run, over) led;
    }
goes_on g db (Err fault) keeps held settled = tt

-- what a stop leaves on the way
pub left : (db : Trees) (old : Type 0) (next : Hall) (origin : Origin) → Headline origin [] next → old ⊎ SpellHall db next → old ⊎ ((end : Hall) × SpellHall db end × Headline origin [] end)
left db old next origin headline (inl before) = inl before
left db old next origin headline (inr spells) = inr (next, spells, headline)
