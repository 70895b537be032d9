-- What a store over a hall that was carried over from the first schema is promised.
use Rattle.std.specs.Prelude.{List, [], ◌∷◌}
use Rattle.laws_stores.specs.Prelude.{Hall, Headline, AllLead, Item, Origin, IsSettled, Ghosts}

-- The store has this hall, a stop leaves it alone, and the history of this origin begins with it. Whatever comes to it from now on keeps all
-- laws, of its whole past. `holds` says which hall a store has, and `leaves` that a stop leaves one of these halls.
pub record GoesOn {S : Type 0} (g : Ghosts S) (store : S) (origin : Origin) (next : Hall) : Type 0 where
  pub held : g.holds store next
  pub left : g.leaves store (next ∷ [])
  pub begun : IsSettled g store origin []
  pub laws : (items : List Item) (end : Hall) → AllLead next items end → Headline origin items end
