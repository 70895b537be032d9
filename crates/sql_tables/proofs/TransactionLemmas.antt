-- Statements inside a transaction, and how the transaction ends.
use Rattle.sql_schema.specs.{Words.{cases_Bool, at_drop_more, drop_all, Error, Database, State, HasCleanDisk, IsRolledBack, Survives, Held, state, Hall, SpellHall, hall_schema, earlier}, Steps.IsStep}
use Rattle.std.proofs.Common.{◌≡◌, ◌<◌, ◌≤◌, ◌+◌, inl, inr, ℕ, List, [], ◌∷◌, length, drop, get_or, true, false, Ok, Err, Result, IfOk, OnOk, OnErr, IsTrue, sym, ap, subst, ◌∙◌}
use Rattle.sqlite_trees.specs.declared.store.Store as store
use Rattle.sql_tables.specs.{Creating.{IsFlat, IsMade, IsWhole, KeepsTables}, Running.IsEnded}

-- a step further
pub on_ok : {X E : Type 0} (P Q : Type 0) (r : Result X E) → OnOk r P → (P → Q) → OnOk r Q
on_ok P Q (Ok x) p then = then p
on_ok P Q (Err e) p then = tt

on_err : {X E : Type 0} (P Q : Type 0) (r : Result X E) → OnErr r P → (P → Q) → OnErr r Q
on_err P Q (Ok x) p then = tt
on_err P Q (Err e) p then = then p

-- of any answer there holds what holds anyway
pub whatever : {X E A : Type 0} (r : Result X E) → A → IfOk r (λ _. A)
whatever (Ok x) a = a
whatever (Err e) a = tt

-- a refusal before anything was asked leaves all as it was
pub nothing_made : {X E : Type 0} (s : State) (e : E) → IsWhole s s {Y = X} (Err e)
nothing_made s e = record { after = s.now.trees; shown = tt; crash = λ db may. inl may }

-- what is left of a slice at an index
pub left_at : {X : Type 0} (slice xs : List X) (i : ℕ) (x : X) → slice ≡ xs → i < length slice → x ≡ get_or slice i x → drop i xs ≡ x ∷ drop (i + 1) xs
left_at slice xs i x is low at = subst (λ l. drop i l ≡ x ∷ drop (i + 1) l) is (at_drop_more (λ l. l) slice i x low ∙ ap (λ y. y ∷ drop (i + 1) slice) (sym at))

pub left_none_at : {X : Type 0} (slice xs : List X) (i : ℕ) → slice ≡ xs → length slice ≤ i → drop i xs ≡ []
left_none_at slice xs i is done = subst (λ l. drop i l ≡ []) is (drop_all i slice done)

-- ---- one statement

-- a statement that is carried out found the transaction going on
pub found_inside : (old : State) {count : ℕ} {e : Error} → (old.in_transaction ≡ false → ◌≡◌ {A = Result ℕ Error} (Ok count) (Err e)) → IsTrue old.in_transaction
found_inside old ended = elim (cases_Bool old.in_transaction) [
  | inl going ↦ going
  | inr over ↦ absurd (let e = ended over in cc)
]

-- ---- a transaction of one step

module _ {S : Type 0} (g : store.Ghosts S) (h0 h1 t u : Held S) {E F : Type 0} (done : Result (Unit {0}) E) (r : Result (Unit {0}) F) (A : Unit {0} → Type 0) (begun : h1 ≡ record h0 { in_transaction = true })
    (step : HasCleanDisk (state g t) → IsStep (state g h1) (state g t) done A) (one : Survives (state g h1) (state g t) (λ _. ⊥))
    (ended : HasCleanDisk (state g u) → IsEnded (state g t) (state g u) done r) (two : Survives (state g t) (state g u) (λ db. (done ≡ Ok tt) × (db ≡ (state g t).now.trees))) (clean : HasCleanDisk (state g u)) where
  stepped : IsStep (state g h1) (state g t) done A
  stepped = step (earlier two clean)

  going : IsTrue (state g h1).in_transaction
  going = ap (λ (k : Held S). k.in_transaction) begun

  given : done ≡ Ok tt → A tt
  given is = subst (λ d. IfOk d A) is stepped.gives

  -- if it's undone, the tables are as they were
  tables_kept : IsFlat (state g h0) → IsRolledBack (state g t) (state g u) → KeepsTables (state g h0) (state g u)
  tables_kept flat back live =
      let here = back.was_open live in
      let kept = stepped.kept going in
      let was : IsTrue (state g h0).is_open = subst (λ (k : Held S). IsTrue (state g k).is_open) begun (kept.was_open here) in
      let same : (state g t).committed ≡ (state g h0).committed = kept.committed here ∙ ap (λ (k : Held S). (state g k).committed) begun in
      let gone = back.undone live in
      (was, gone.0 ∙ same ∙ sym (flat was), gone.1 ∙ same)

  -- which a refusal says
  pub refused : IsFlat (state g h0) → OnErr r (KeepsTables (state g h0) (state g u))
  refused flat = on_err _ _ r (ended clean).undone (λ undone. tables_kept flat (undone (on_ok _ _ done stepped.mode (λ mode. mode going))))

  -- all of it is there or none
  pub whole : IsWhole (state g h0) (state g u) r
  whole = record {
    after = (state g t).now.trees;
    shown = on_ok _ _ r (ended clean).committed (λ it. ap (λ (d : Database). d.trees) it.1.now_is);
    crash = λ db may. elim (two.crash clean db may) [
      | inl before ↦ elim (one.crash (earlier two clean) db before) [ inl start ↦ inl (subst (λ k. (state g k).may_leave db) begun start) | inr none ↦ absurd none ]
      | inr all ↦ inr all.1
    ];
  }

  -- where the step makes tables that spell a hall, they are held once they're committed, and while they were a stop could leave them
  pub made : (h : Hall) → (A tt → ((state g t).now.schema ≡ hall_schema) × SpellHall (state g t).now.trees h) → IsMade (state g h0) (state g u) r h
  made h spells = record {
    held = on_ok _ _ r (ended clean).committed (λ it.
        let spelt = spells (given it.0) in
        let shown = it.1 in
        record {
          running = shown.is_open;
          schema = ap (λ (d : Database). d.schema) shown.now_is ∙ spelt.0;
          spelt = subst (λ (d : Database). SpellHall d.trees h) (sym shown.now_is) spelt.1;
          kept = shown.committed_is ∙ sym shown.now_is;
          autocommit = shown.mode;
        });
    crash = λ db may. elim (two.crash clean db may) [
      | inl before ↦ elim (one.crash (earlier two clean) db before) [ inl start ↦ inl (subst (λ k. (state g k).may_leave db) begun start) | inr none ↦ absurd none ]
      | inr all ↦ inr (subst (λ trees. SpellHall trees h) (sym all.1) (spells (given all.0)).1)
    ];
  }
