-- What a read of a store promises, where the bound of the store is passed whole.
use Rattle.std.specs.Prelude.{Result}
use Rattle.hall_types.specs.Hall.{Hall}
use Rattle.hall_store.specs.{Store.ReadsBy, declared.store.HallStore.Ghosts}

module _ {S : Type 0} (g : Ghosts S) (old new : S) {Y E : Type 0} (r : Result Y E) where
  abbrev pub Reads : (Hall → Y → Type 0) → Type 0
  Reads Right = ReadsBy g.is_clean g.holds g.leaves g.over old new r Right
