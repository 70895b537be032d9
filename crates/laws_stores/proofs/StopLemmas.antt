-- Of halls that a stop may leave, the one that its tables spell.
use Rattle.std.{proofs.Common.{◌≡◌, ℕ, List, [], ◌∷◌, Result, Ok, Err, inl, inr, subst, sym}, specs.{Prelude.IfOk, List.AllByRecursion}}
use Rattle.laws_stores.specs.Prelude.{Trees, Hall, Has, SpellHall, Item, Origin, Headline, IsEnd, IsSettled, Ghosts}

pub of_halls : (db : Trees) (origin : Origin) (IsOne : List Item → Type 0) (h : Hall) (halls : List Hall) → Has halls h → SpellHall db h
    → AllByRecursion (IsEnd origin IsOne) halls → (end : Hall) × SpellHall db end × IsEnd origin IsOne end
of_halls db origin IsOne h [] has spells all = absurd has
of_halls db origin IsOne h (x ∷ halls) (inl is) spells all = (h, spells, subst (IsEnd origin IsOne) (sym is) all.0)
of_halls db origin IsOne h (x ∷ halls) (inr has) spells all = of_halls db origin IsOne h halls has spells all.1

-- a store that was opened has the hall to which a history leads
pub opened : {S F : Type 0} (g : Ghosts S) (db : Trees) (r : Result S F)
    → IfOk r (λ store. g.is_clean store → (h : Hall) → SpellHall db h → g.holds store h) → IfOk r (λ store. g.is_clean store → (h : Hall) → SpellHall db h → g.leaves store (h ∷ []))
    → IfOk r (λ store. g.is_clean store → (origin : Origin) (items : List Item) (h : Hall) → Headline origin items h → SpellHall db h → IsSettled g store origin items)
opened g db (Ok store) held settled = λ is origin items h headline spells. record {
  history = record { end = h; held = held is h spells; headline = headline };
  settled = settled is h spells;
}
opened g db (Err fault) held settled = tt
