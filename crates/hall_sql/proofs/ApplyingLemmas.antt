-- A transaction that writes the rows of a change.
use Rattle.sql_schema.specs.Words.{Error, Database, Held, state, FailsToCommit, State, HasCleanDisk, IsRolledBack, Survives, Shows, KeepsCommit, KeepsCounts, survives_then, survives_begin, Hall, applied, written, RowWrite, IsHeld, Holds, Leaves, leaves_on, leaves_more, SpellHall, survives_none, survives_both}
use Rattle.std.{specs.Prelude.IsErr, proofs.Common.{◌≡◌, inl, inr, List, [], ◌∷◌, true, false, Ok, Err, Result, OnOk, IfErr, IsTrue, refl, sym, ap, subst, ◌∙◌, arith, true≢false}}
use Rattle.sqlite_trees.specs.declared.store.Store as trees
use Rattle.hall_store.specs.{Rules.AllKeep, Versions.HaveVersions}
use Rattle.hall_sql.specs.{Within.{IsWithinHall, IsRowWritten}, Applying.IsTold}

keeps_on : {a b c : State} → KeepsCommit a b → KeepsCommit b c → KeepsCommit a c
keeps_on one two = record { was_open = λ live. one.was_open (two.was_open live); committed = λ live. two.committed live ∙ one.committed (two.was_open live) }

-- the hall as the transaction sees it, with the rows that are left to write, of all that lead from this hall
pub record IsPartWritten (s : State) (left all : List RowWrite) (h : Hall) : Type 0 where
  pub now : Hall
  pub within : IsWithinHall s h now
  pub keep : AllKeep left now
  pub ends : applied left now ≡ applied all h
  pub versions : HaveVersions left now → HaveVersions all h

pub record Going (s0 s : State) (left all : List RowWrite) : Type 0 where
  pub survives : Survives s0 s (λ _. ⊥)
  pub kept : HasCleanDisk s → KeepsCommit s0 s
  pub mode : HasCleanDisk s → s.in_transaction ≡ true
  pub made : HasCleanDisk s → (h : Hall) → IsHeld s0 h → AllKeep all h → IsPartWritten s left all h

pub begins : {S : Type 0} (g : trees.Ghosts S) (h0 h1 : Held S) (all : List RowWrite) → h1 ≡ record h0 { in_transaction = true } → Going (state g h0) (state g h1) all all
begins g h0 h1 all is = rw is (record {
  survives = survives_begin g h0 (state g (record h0 { in_transaction = true })) (λ _. ⊥) (survives_none _);
  kept = λ _. record { was_open = λ live. live; committed = λ _. refl };
  mode = λ _. refl;
  made = λ _ h held keep. record {
    now = h;
    within = record {
      hall_rows = held.spelt.hall_rows;
      within = record {
        spelt = record { schema = held.schema; tables = held.spelt.tables };
        committed_schema = ap (λ (d : Database). d.schema) held.kept ∙ held.schema;
        kept = subst (λ (d : Database). SpellHall d.trees h) (sym held.kept) held.spelt;
        mode = refl;
      };
      agrees = held.spelt.agrees;
    };
    keep = keep;
    ends = refl;
    versions = λ have. have;
  };
})

-- one more row was written
pub steps : {Y E : Type 0} {s0 s t : State} (y : Y) (w : RowWrite) (left all : List RowWrite) → Going s0 s (w ∷ left) all → Survives s t (λ _. ⊥) → (HasCleanDisk t → IsRowWritten s t {E = E} (Ok y) w) → Going s0 t left all
steps y w left all going more made = record {
  survives = survives_both going.survives more;
  kept = λ clean. keeps_on (going.kept (omega (arith, more.clean))) ((made clean).kept (going.mode (omega (arith, more.clean))));
  mode = λ clean. (made clean).mode (going.mode (omega (arith, more.clean)));
  made = λ clean h held keep.
      let part = going.made (omega (arith, more.clean)) h held keep in
      let it = (made clean).gives h part.now part.within part.keep.0 in
      record { now = written w part.now; within = it.0; keep = part.keep.1; ends = part.ends; versions = λ have. part.versions (it.1, have) };
}

-- what goes back to the commit before the transaction has the hall that was held then
rolled : (s0 s t : State) (h : Hall) → KeepsCommit s0 s → IsRolledBack s t → IsHeld s0 h → Holds t h
rolled s0 s t h kept back was live =
    let gone = back.undone live in
    let same = gone.0 ∙ kept.committed (back.was_open live) ∙ was.kept in
    record {
      running = live;
      schema = ap (λ (d : Database). d.schema) same ∙ was.schema;
      spelt = subst (λ (d : Database). SpellHall d.trees h) (sym same) was.spelt;
      kept = gone.1 ∙ sym gone.0;
      autocommit = back.autocommit;
    }

-- the transaction ends with its commit
module _ (s0 s t : State) (all : List RowWrite) (going : Going s0 s [] all) (more : Survives s t (λ db. db ≡ s.now.trees)) (clean : HasCleanDisk t) where
  first : HasCleanDisk s
  first = omega (arith, more.clean)

  spells_all : (h : Hall) → IsHeld s0 h → AllKeep all h → SpellHall s.now.trees (applied all h)
  spells_all h held keep =
      let it = going.made first h held keep in
      subst (SpellHall s.now.trees) it.ends (record { hall_rows = it.within.hall_rows; tables = it.within.within.spelt.tables; agrees = it.within.agrees })

  crash_at_end : (h : Hall) → IsHeld s0 h → AllKeep all h → (hs : List Hall) → Leaves s0 hs → Leaves t (applied all h ∷ hs)
  crash_at_end h held keep hs left db may =
      let whole = survives_then s0 s t (λ _. ⊥) (λ db. db ≡ s.now.trees) (λ db. db ≡ s.now.trees) (λ _ db none. absurd none) (λ _ db is. is) going.survives more in
      elim (whole.crash clean db may) [
        | inl before ↦ leaves_more s0 (applied all h) hs left db before
        | inr is ↦ (applied all h, inl refl, subst (λ d. SpellHall d (applied all h)) (sym is) (spells_all h held keep))
      ]

  pub commits : {Y : Type 0} (r : Result Y Error) → OnOk r (IsTrue s.in_transaction × Shows s t s.now s.now false × KeepsCounts s t × (t.marks ≡ [])) → IfErr r (FailsToCommit s t) → IsTold s0 t r all
  commits (Ok y) ok err = record {
    made = λ h held keep. record {
      running = ok.1.is_open;
      schema = ap (λ (d : Database). d.schema) ok.1.now_is ∙ (going.made first h held keep).within.within.spelt.schema;
      spelt = subst (λ (d : Database). SpellHall d.trees (applied all h)) (sym ok.1.now_is) (spells_all h held keep);
      kept = ok.1.committed_is ∙ sym ok.1.now_is;
      autocommit = ok.1.mode;
    };
    versions = λ h held keep. (going.made first h held keep).versions tt;
    back = tt;
    crash = crash_at_end;
  }
  commits (Err e) ok err = record {
    made = tt;
    versions = tt;
    back = λ h held live. elim err [ inl back ↦ rolled s0 s t h (going.kept first) back.3 held live | inr late ↦ absurd (true≢false (sym (going.mode first) ∙ late.1)) ];
    crash = crash_at_end;
  }

-- a row was refused, and the transaction was undone
pub refused : {Y : Type 0} {s0 s m t : State} (r : Result Y Error) (left all : List RowWrite) → IsErr r → Going s0 s left all → Survives s m (λ _. ⊥) → (HasCleanDisk m → IsTrue s.in_transaction → KeepsCommit s m)
    → Survives m t (λ _. ⊥) → HasCleanDisk t → (HasCleanDisk t → IsRolledBack m t) → IsTold s0 t r all
refused (Ok y) left all bad going one kept two clean back = absurd cc
refused {s0 = s0} {s = s} {m = m} {t = t} (Err f) left all bad going one kept two clean back =
    let mid : HasCleanDisk m = omega (arith, two.clean) in
    let first : HasCleanDisk s = omega (arith, one.clean, mid) in
    record {
      made = tt;
      versions = tt;
      back = λ h held. rolled s0 m t h (keeps_on (going.kept first) (kept mid (rw (going.mode first) refl))) (back clean) held;
      crash = λ h held keep hs left. leaves_more t (applied all h) hs (leaves_on s0 t hs (survives_both (survives_both going.survives one) two) clean left);
    }
