-- A store that can hold changes back, over another one.
use Rattle.std.specs.{Prelude.{◌≡◌, ◌≢◌, Bool, true, false, List, [], ◌∷◌, Option, None, Some, Result, IfOk}, List.list_any}
use Rattle.std.proofs.Common.{ap, ◌∙◌}
use Rattle.hall_types.specs.{Hall.{Hall, applied, second}, ChangeLaws.applied_schema, Tables.{Table, is_among, tables_of}, declared.change.RowWrite.RowWrite}
use Rattle.hall_store.specs.{Rules.AllKeep, Store.{Base, ReadsBy}, declared.store.HallStore.Ghosts}
use Rattle.store_group.specs.declared.group.Group.{Group}

module _ {S : Type 0} where
  -- the store within
  abbrev pub store_of : Group S → S
  store_of group = group.store

  -- the row writes that the group holds
  abbrev pub writes_of : Group S → List RowWrite
  writes_of group = group.writes.items

  abbrev pub is_open : Group S → Bool
  is_open group = group.is_open

-- one of the row writes changes the table
abbrev pub change : Table → List RowWrite → Bool
change table writes = list_any (λ row. is_among table (tables_of row)) writes

module _ {S : Type 0} (g : Ghosts S) where
  -- the writes lead from a hall that the store within has to this one, and keep the tables' rules; there are none where no group is open
  pub record LeadsTo (group : Group S) (h : Hall) : Type 0 where
    pub from : Hall
    pub held : g.holds (store_of group) from
    pub keep : AllKeep (writes_of group) from
    pub led : h ≡ applied (writes_of group) from
    pub alone : is_open group ≡ false → writes_of group ≡ []

  -- no write changes the schema
  pub leads_second : ((s : S) (h : Hall) → g.holds s h → h.schema ≡ second) → (group : Group S) (h : Hall) → LeadsTo group h → h.schema ≡ second
  leads_second schema group h leads =
      ap (λ x. x.schema) leads.led ∙ (applied_schema (writes_of group) leads.from ∙ schema (store_of group) leads.from leads.held)

  -- where no group is open, a stop leaves what it leaves of the store within; of an open group nothing is said but what it is over
  abbrev pub LeavesOf : Group S → List Hall → Type 0
  LeavesOf group hs = is_open group ≡ false → g.leaves (store_of group) hs

  -- a group is open, the store within has the hall that it had before it, and a stop leaves what it left then
  pub record IsOpenOver (group : Group S) (base : Base) : Type 0 where
    pub opened : is_open group ≡ true
    pub held : g.holds (store_of group) base.hall
    pub left : base.halls ≢ [] → g.leaves (store_of group) base.halls

  -- what the open group is made over, if one is open
  abbrev pub IsOver : Group S → Option Base → Type 0
  IsOver group None = is_open group ≡ false
  IsOver group (Some base) = IsOpenOver group base

module _ {S : Type 0} (g : Ghosts S) (old new : Group S) {Y E : Type 0} (r : Result Y E) where
  -- a read of a group
  abbrev pub GroupReads : (Hall → Y → Type 0) → Type 0
  GroupReads Right = ReadsBy (λ group. g.is_clean (store_of group)) (LeadsTo g) (LeavesOf g) (IsOver g) old new r Right

  -- Looks at the store within, or none: what it has and what the group holds stay.
  pub record IsGroupLook (Right : Hall → Y → Type 0) : Type 0 where
    pub answer : IfOk r (λ y. (h : Hall) → LeadsTo g old h → Right h y)
    pub same : (h : Hall) → LeadsTo g old h → LeadsTo g new h
    pub base : (base : Option Base) → IsOver g old base → IsOver g new base

  abbrev pub GroupLooks : (Hall → Y → Type 0) → Type 0
  GroupLooks Right = g.is_clean (store_of new) → g.is_clean (store_of old) × IsGroupLook Right
