-- A store that keeps in memory which machines addresses were found at, and the lists that were read since the last change.
use Rattle.std.specs.Prelude.{List, [], ◌∷◌, IsTrue}
use Rattle.hall_types.specs.Hall.{Hall}
use Rattle.hall_store.specs.{Known.AreOf, Lists.AreListsOf, declared.cached.Cached.Cached}

-- the store within it
abbrev pub inner : {S : Type 0} → Cached S → S
inner cached = cached.store

module _ {S : Type 0} (holds : S → Hall → Type 0) (leaves : S → List Hall → Type 0) where
  -- the store within has the hall, what is known is as the hall has it, and once it's settled a stop leaves that hall alone
  pub record Keeps (cached : Cached S) (h : Hall) : Type 0 where
    pub held : holds (inner cached) h
    pub known : AreOf h cached.known.slots.items
    pub lists : AreListsOf h cached.lists
    pub settled : IsTrue cached.is_settled → leaves (inner cached) (h ∷ [])
