-- Beginning a group, committing it and giving it up.
use Rattle.std.{specs.{Prelude.{◌≡◌, ◌≢◌, List, [], ◌∷◌, Option, None, Some, Result, OnOk, OnErr}, Vec.vec_len}, proofs.Common.{Ok, Err, true, false, refl, ◌∙◌, ap, sym, subst}}
use Rattle.hall_types.specs.{Hall.{Hall, applied}, declared.change.RowWrite.RowWrite}
use Rattle.hall_store.specs.{Grouped.{IsBegun, IsCommitted, IsRolledBack}, Rules.AllKeep, Store.{Base, IsWrite}, declared.store.HallStore.Ghosts}
use Rattle.store_group.specs.{Group.{IsOver, LeadsTo, LeavesOf, is_open, store_of, writes_of}, declared.group.Group.Group}

module _ {S : Type 0} (g : Ghosts S) where
  -- without a write, the hall of the store within
  leads_itself : (group : Group S) (h : Hall) → writes_of group ≡ [] → g.holds (store_of group) h → LeadsTo g group h
  leads_itself group h none held = record {
    from = h;
    held = held;
    keep = subst (λ ws. AllKeep ws h) (sym none) tt;
    led = ap (λ ws. applied ws h) (sym none);
    alone = λ closed. none;
  }

  itself_from : (group : Group S) (h : Hall) (leads : LeadsTo g group h) → writes_of group ≡ [] → leads.from ≡ h
  itself_from group h leads none = sym (leads.led ∙ ap (λ ws. applied ws leads.from) none)

  held_alone : (group : Group S) (h : Hall) → LeadsTo g group h → is_open group ≡ false → g.holds (store_of group) h
  held_alone group h leads closed = subst (g.holds (store_of group)) (itself_from group h leads (leads.alone closed)) leads.held

  module _ (old new : Group S) where
    pub begun_by : is_open old ≡ false → new ≡ record old { is_open = true } → {Y E : Type 0} (y : Y) → IsBegun (LeadsTo g) (LeavesOf g) (IsOver g) old new {E = E} (Ok y)
    begun_by closed is y = record {
      begun = λ h leads hs left. record {
        opened = ap is_open is;
        held = subst (λ group. g.holds (store_of group) h) (sym is) (held_alone old h leads closed);
        left = λ some. subst (λ group. g.leaves (store_of group) hs) (sym is) (left some closed);
      };
      same = λ h leads. subst (λ group. LeadsTo g group h) (sym is) (record { from = leads.from; held = leads.held; keep = leads.keep; led = leads.led; alone = λ no. leads.alone closed });
      crash = tt;
      closed = tt;
    }

    pub begun_not : new ≡ old → {Y E : Type 0} (e : E) → IsBegun (LeadsTo g) (LeavesOf g) (IsOver g) old new {Y = Y} (Err e)
    begun_not is e = record {
      begun = tt;
      same = λ h leads. subst (λ group. LeadsTo g group h) (sym is) leads;
      crash = λ hs left. subst (λ group. LeavesOf g group hs) (sym is) left;
      closed = λ closed. subst (λ group. is_open group ≡ false) (sym is) closed;
    }

    pub committed_by : writes_of new ≡ [] → is_open new ≡ false → {Y E : Type 0} (r : Result Y E) → IsWrite g.holds g.leaves g.over (store_of old) (store_of new) r (λ h. writes_of old)
        → IsCommitted (LeadsTo g) (LeavesOf g) (IsOver g) old new r
    committed_by none shut (Ok y) w = record {
      made = λ h leads. (
        leads_itself new h none (subst (g.holds (store_of new)) (sym leads.led) (w.made leads.from leads.held leads.keep)),
        λ closed. subst (λ k. g.leaves (store_of new) (k ∷ [])) (sym leads.led) (w.settled leads.from leads.held leads.keep),
      );
      back = tt;
      closed = shut;
      crash = λ h leads base over some closed.
          subst (λ k. g.leaves (store_of new) (k ∷ base.halls)) (sym leads.led) (w.crash leads.from leads.held leads.keep base.halls (over.left some));
    }
    committed_by none shut (Err e) w = record {
      made = tt;
      back = λ base over. leads_itself new base.hall none (w.same base.hall over.held);
      closed = shut;
      crash = λ h leads base over some closed.
          subst (λ k. g.leaves (store_of new) (k ∷ base.halls)) (sym leads.led) (w.crash leads.from leads.held leads.keep base.halls (over.left some));
    }

    pub rolled_back : writes_of new ≡ [] → is_open new ≡ false → store_of new ≡ store_of old → IsRolledBack (LeadsTo g) (LeavesOf g) (IsOver g) old new
    rolled_back none shut same = record {
      closed = shut;
      back = λ base over. leads_itself new base.hall none (subst (λ s. g.holds s base.hall) (sym same) over.held);
      crash = λ base over some closed. subst (λ s. g.leaves s base.halls) (sym same) (over.left some);
    }

-- a change where no group is open is passed on
module _ {S : Type 0} (g : Ghosts S) (old new : Group S) (closed : is_open old ≡ false) (same : writes_of new ≡ writes_of old) (as_open : is_open new ≡ is_open old)
    (rows : List RowWrite) {Y E : Type 0} (r : Result Y E) (w : IsWrite g.holds g.leaves g.over (store_of old) (store_of new) r (λ h. rows)) where
  none : (h : Hall) → LeadsTo g old h → writes_of new ≡ []
  none h leads = same ∙ leads.alone closed

  made : (h : Hall) → LeadsTo g old h → g.holds (store_of old) h
  made h leads = held_alone g old h leads closed

  never : is_open old ≡ true → ⊥
  never opened = let no : true ≡ false = sym opened ∙ closed in cc

  over_passed : (base : Option Base) → IsOver g old base → IsOver g new base
  over_passed None shut = as_open ∙ shut
  over_passed (Some base) over = absurd (never over.opened)

  pub passed_on : IsWrite (LeadsTo g) (LeavesOf g) (IsOver g) old new r (λ h. rows)
  passed_on = by r w
    where
      by : (o : Result Y E) → IsWrite g.holds g.leaves g.over (store_of old) (store_of new) o (λ h. rows) → IsWrite (LeadsTo g) (LeavesOf g) (IsOver g) old new o (λ h. rows)
      by (Ok y) w = record {
        made = λ h leads keep. leads_itself g new (applied rows h) (none h leads) (w.made h (made h leads) keep);
        versions = λ h leads keep. w.versions h (made h leads) keep;
        same = tt;
        crash = λ h leads keep hs left shut. w.crash h (made h leads) keep hs (left closed);
        settled = λ h leads keep shut. w.settled h (made h leads) keep;
        base = over_passed;
      }
      by (Err e) w = record {
        made = tt;
        versions = tt;
        same = λ h leads. leads_itself g new h (none h leads) (w.same h (made h leads));
        crash = λ h leads keep hs left shut. w.crash h (made h leads) keep hs (left closed);
        settled = tt;
        base = over_passed;
      }
