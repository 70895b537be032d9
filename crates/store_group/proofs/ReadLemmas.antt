-- From a read of the store within to one of the group.
use Rattle.std.{specs.{Prelude.{◌≡◌, Bool, false, List, [], ◌∷◌, ◌++◌, Option, None, Some, Result, IfOk, OnOk, IsOk}, Result.{IsErr, is_ok}}, proofs.{Common.{Ok, Err, true, append-nil, refl, ◌∙◌, ap, sym, subst}, lemmas.Bool.or_parts}}
use Rattle.hall_types.{specs.{Hall.{Hall, applied, written as put_in}, ChangeLaws.applied_append, Tables.{interfaces, is_among, members, operators, tables_of}, declared.{change.RowWrite.RowWrite}}, proofs.WriteLemmas.changes_only}
use Rattle.hall_store.specs.{Rules.AllKeep, Store.{Base, IsRead, ReadsBy, WritesBy}, Versions.HaveVersions, declared.store.HallStore.Ghosts}
use Rattle.store_group.proofs.WriteLemmas.{keep_more}
use Rattle.store_group.specs.{Group.{GroupLooks, GroupReads, IsOver, LeadsTo, LeavesOf, change, is_open, store_of, writes_of}, declared.group.Group.Group}

none_ok : (Y : Type 0) {E : Type 0} (e : E) (r : Result Y E) → r ≡ Err e → IsOk r → ⊥
none_ok Y e (Ok y) is ok = cc
none_ok Y e (Err x) is ok = cc

module _ {S : Type 0} (g : Ghosts S) (old new : Group S) (same : writes_of new ≡ writes_of old) (as_open : is_open new ≡ is_open old) {Y E : Type 0}
    (r : Result Y E) (Within : Hall → Y → Type 0) where
  abbrev IsWithin : Type 0
  IsWithin = IsRead g.holds g.leaves g.over (store_of old) (store_of new) r Within

  leads_on : IsWithin → (h : Hall) → LeadsTo g old h → LeadsTo g new h
  leads_on it h leads = record {
    from = leads.from;
    held = it.same leads.from leads.held;
    keep = subst (λ ws. AllKeep ws leads.from) (sym same) leads.keep;
    led = leads.led ∙ ap (λ ws. applied ws leads.from) (sym same);
    alone = λ closed. same ∙ leads.alone (sym as_open ∙ closed);
  }

  over_on : IsWithin → (base : Option Base) → IsOver g old base → IsOver g new base
  over_on it None closed = as_open ∙ closed
  over_on it (Some base) over = record {
    opened = as_open ∙ over.opened;
    held = it.same base.hall over.held;
    left = λ some. it.crash base.hall over.held base.halls (over.left some);
  }

  -- where no group is open, the store within has just this hall
  alone_from : (h : Hall) (leads : LeadsTo g old h) → is_open new ≡ false → h ≡ leads.from
  alone_from h leads closed = leads.led ∙ ap (λ ws. applied ws leads.from) (leads.alone (sym as_open ∙ closed))

  module _ (read : ReadsBy g.is_clean g.holds g.leaves g.over (store_of old) (store_of new) r Within) {Z F : Type 0} where
    -- the group reads what the store within read, which answered if the group does
    pub read_by : (out : Result Z F) (Right : Hall → Z → Type 0) → (IsWithin → IfOk out (λ z. (h : Hall) → LeadsTo g old h → Right h z))
        → OnOk out (IsOk r) → GroupReads g old new out Right
    read_by out Right answer answers clean =
        let it = (read clean).1 in (
          (read clean).0,
          record {
            answer = answer it;
            same = leads_on it;
            crash = λ h leads hs left closed. it.crash leads.from leads.held hs (left (sym as_open ∙ closed));
            settled = by out answers r refl it.settled;
            base = over_on it;
          },
        )
      where
        by : (o : Result Z F) → OnOk o (IsOk r) → (i : Result Y E) → r ≡ i → OnOk i ((h : Hall) → g.holds (store_of old) h → g.leaves (store_of new) (h ∷ []))
            → OnOk o ((h : Hall) → LeadsTo g old h → LeavesOf g new (h ∷ []))
        by (Ok z) answers (Ok y) is settled = λ h leads closed. subst (λ k. g.leaves (store_of new) (k ∷ [])) (sym (alone_from h leads closed)) (settled leads.from leads.held)
        by (Ok z) answers (Err e) is settled = absurd (none_ok Y e r is answers)
        by (Err e) answers i is settled = tt

    -- and answers no
    pub read_failed : (out : Result Z F) (Right : Hall → Z → Type 0) → IsErr out → GroupReads g old new out Right
    read_failed (Err e) Right is = read_by (Err e) Right (λ it. tt) tt
    read_failed (Ok z) Right is = absurd cc

    -- likewise where it is no read of the group
    pub look_by : (out : Result Z F) (Right : Hall → Z → Type 0) → (IsWithin → IfOk out (λ z. (h : Hall) → LeadsTo g old h → Right h z)) → GroupLooks g old new out Right
    look_by out Right answer clean = let it = (read clean).1 in ((read clean).0, record { answer = answer it; same = leads_on it; base = over_on it })

    pub look_failed : (out : Result Z F) (Right : Hall → Z → Type 0) → IsErr out → GroupLooks g old new out Right
    look_failed (Err e) Right is = look_by (Err e) Right (λ it. tt)
    look_failed (Ok z) Right is = absurd cc

module _ {S : Type 0} (g : Ghosts S) (old new : Group S) (same : writes_of new ≡ writes_of old) (as_open : is_open new ≡ is_open old) {Y E : Type 0} (r : Result Y E) where
  itself : (o : Result Y E) → OnOk o (IsOk o)
  itself (Ok y) = refl
  itself (Err e) = tt

  -- the answer of the store within, of what no write changes
  pub read_same : (Right : Hall → Y → Type 0) → ((h : Hall) (y : Y) → Right h y → Right (applied (writes_of old) h) y)
      → ReadsBy g.is_clean g.holds g.leaves g.over (store_of old) (store_of new) r Right → GroupReads g old new r Right
  read_same Right carry read = read_by g old new same as_open r Right read r Right (λ it. by r it.answer) (itself r)
    where
      by : (o : Result Y E) → IfOk o (λ y. (h : Hall) → g.holds (store_of old) h → Right h y) → IfOk o (λ y. (h : Hall) → LeadsTo g old h → Right h y)
      by (Ok y) answer = λ h leads. subst (λ k. Right k y) (sym leads.led) (carry leads.from y (answer leads.from leads.held))
      by (Err e) answer = tt

  -- where there is no write
  pub read_alone : (Right : Hall → Y → Type 0) → writes_of old ≡ []
      → ReadsBy g.is_clean g.holds g.leaves g.over (store_of old) (store_of new) r Right → GroupReads g old new r Right
  read_alone Right none = read_same Right (λ h y right. subst (λ ws. Right (applied ws h) y) (sym none) right)

  -- a row that the writes are followed on from that of the store within
  pub read_row : {F : Type 0} (f : Hall → Y) (row : Y) → r ≡ Ok row → ReadsBy g.is_clean g.holds g.leaves g.over (store_of old) (store_of new) r (λ h y. y ≡ f h)
      → (out : Result Y F) → ((h : Hall) → row ≡ f h → IfOk out (λ last. last ≡ f (applied (writes_of old) h))) → GroupReads g old new out (λ h y. y ≡ f h)
  read_row {F} f row is read out on =
      read_by g old new same as_open r (λ h y. y ≡ f h) read out (λ h y. y ≡ f h)
      (λ it. by out on (subst (λ o. IfOk o (λ y. (h : Hall) → g.holds (store_of old) h → y ≡ f h)) is it.answer)) (answered out)
    where
      by : (o : Result Y F) → ((h : Hall) → row ≡ f h → IfOk o (λ last. last ≡ f (applied (writes_of old) h))) → ((h : Hall) → g.holds (store_of old) h → row ≡ f h)
          → IfOk o (λ y. (h : Hall) → LeadsTo g old h → y ≡ f h)
      by (Ok last) on answer = λ h leads. on leads.from (answer leads.from leads.held) ∙ ap f (sym leads.led)
      by (Err e) on answer = tt

      answered : (o : Result Y F) → OnOk o (IsOk r)
      answered (Ok last) = ap is_ok is
      answered (Err e) = tt

-- ---- looks one after another

module _ {S : Type 0} (g : Ghosts S) (old mid new : Group S) {Y Z E F : Type 0} (y : Y) (One : Hall → Y → Type 0) (Two Both : Hall → Z → Type 0) (out : Result Z F) where
  pub look_then : GroupLooks g old mid {Y = Y} {E = E} (Ok y) One → GroupLooks g mid new out Two → ((h : Hall) (z : Z) → One h y → Two h z → Both h z) → GroupLooks g old new out Both
  look_then first then both clean =
      let two = then clean in
      let one = first two.0 in (
        one.0,
        record {
          answer = by out (λ h held. one.1.answer h held) two.1.answer (λ h held. one.1.same h held);
          same = λ h held. two.1.same h (one.1.same h held);
          base = λ base over. two.1.base base (one.1.base base over);
        },
      )
    where
      by : (o : Result Z F) → ((h : Hall) → LeadsTo g old h → One h y) → IfOk o (λ z. (h : Hall) → LeadsTo g mid h → Two h z) → ((h : Hall) → LeadsTo g old h → LeadsTo g mid h)
          → IfOk o (λ z. (h : Hall) → LeadsTo g old h → Both h z)
      by (Ok z) one two on = λ h held. both h z (one h held) (two h (on h held))
      by (Err e) one two on = tt

-- a look that failed says no more by another error
pub fails_too : {S : Type 0} (g : Ghosts S) (old new : Group S) {Y Z E F : Type 0} (r : Result Y E) (Right : Hall → Y → Type 0) → GroupLooks g old new r Right
    → (out : Result Z F) (Other : Hall → Z → Type 0) → IsErr out → GroupLooks g old new out Other
fails_too g old new r Right look (Ok z) Other is clean = absurd cc
fails_too g old new r Right look (Err e) Other is clean =
    let it = look clean in (it.0, record { answer = tt; same = it.1.same; base = it.1.base })

-- ---- writes to an open group

module _ {S : Type 0} (g : Ghosts S) (old mid new : Group S) (opened : is_open new ≡ true) (as_open : is_open new ≡ is_open mid) (same : store_of new ≡ store_of mid) where
  abbrev WritesGroup : {Z F : Type 0} → Result Z F → List RowWrite → Type 0
  WritesGroup r rows = WritesBy (λ group. g.is_clean (store_of group)) (LeadsTo g) (LeavesOf g) (IsOver g) old new r (λ h. rows)

  never : is_open new ≡ false → ⊥
  never closed = let no : true ≡ false = sym opened ∙ closed in cc

  over_mid : (base : Option Base) → IsOver g mid base → IsOver g new base
  over_mid None closed = as_open ∙ closed
  over_mid (Some base) over = record {
    opened = opened;
    held = subst (λ its. g.holds its base.hall) (sym same) over.held;
    left = λ some. subst (λ its. g.leaves its base.halls) (sym same) (over.left some);
  }

  leads_by : (more : List RowWrite) → writes_of new ≡ writes_of mid ++ more → (h : Hall) → LeadsTo g mid h → AllKeep more h → LeadsTo g new (applied more h)
  leads_by more is h leads keep = record {
    from = leads.from;
    held = subst (λ its. g.holds its leads.from) (sym same) leads.held;
    keep = subst (λ ws. AllKeep ws leads.from) (sym is) (keep_more (writes_of mid) more leads.from leads.keep (subst (AllKeep more) leads.led keep));
    led = ap (applied more) leads.led ∙ (sym (applied_append (writes_of mid) more leads.from) ∙ ap (λ ws. applied ws leads.from) (sym is));
    alone = λ closed. absurd (never closed);
  }

  pub written : (rows : List RowWrite) {Y E Z F : Type 0} (y : Y) → GroupLooks g old mid {E = E} (Ok y) (λ h answer. HaveVersions rows h)
      → writes_of new ≡ writes_of mid ++ rows → (z : Z) → WritesGroup {F = F} (Ok z) rows
  written rows y look is z clean =
      let it = look (subst g.is_clean same clean) in (
        it.0,
        record {
          made = λ h leads keep. leads_by rows is h (it.1.same h leads) keep;
          versions = λ h leads keep. it.1.answer h leads;
          same = tt;
          crash = λ h leads keep hs left closed. absurd (never closed);
          settled = λ h leads keep closed. absurd (never closed);
          base = λ base over. over_mid base (it.1.base base over);
        },
      )

  pub none_written : (rows : List RowWrite) {Y E Z F : Type 0} (r : Result Y E) (Right : Hall → Y → Type 0) → GroupLooks g old mid r Right
      → writes_of new ≡ writes_of mid → (out : Result Z F) → IsErr out → WritesGroup out rows
  none_written rows r Right look is (Ok z) fails clean = absurd cc
  none_written rows r Right look is (Err e) fails clean =
      let it = look (subst g.is_clean same clean) in (
        it.0,
        record {
          made = tt;
          versions = tt;
          same = λ h leads. leads_by [] (is ∙ sym (append-nil (writes_of mid))) h (it.1.same h leads) tt;
          crash = λ h leads keep hs left closed. absurd (never closed);
          settled = tt;
          base = λ base over. over_mid base (it.1.base base over);
        },
      )

-- ---- tables that no write changes

pub same_operators : (ws : List RowWrite) (h : Hall) → change operators ws ≡ false → (applied ws h).operators ≡ h.operators
same_operators [] h none = refl
same_operators (w ∷ ws) h none =
    let parts = or_parts (is_among operators (tables_of w)) (change operators ws) none in
    same_operators ws (put_in w h) parts.1 ∙ (changes_only w h).operators parts.0

pub same_members : (ws : List RowWrite) (h : Hall) → change members ws ≡ false → (applied ws h).members ≡ h.members
same_members [] h none = refl
same_members (w ∷ ws) h none =
    let parts = or_parts (is_among members (tables_of w)) (change members ws) none in
    same_members ws (put_in w h) parts.1 ∙ (changes_only w h).members parts.0

pub same_interfaces : (ws : List RowWrite) (h : Hall) → change interfaces ws ≡ false → (applied ws h).interfaces ≡ h.interfaces
same_interfaces [] h none = refl
same_interfaces (w ∷ ws) h none =
    let parts = or_parts (is_among interfaces (tables_of w)) (change interfaces ws) none in
    same_interfaces ws (put_in w h) parts.1 ∙ (changes_only w h).interfaces parts.0
