-- Laws of connections that hold a hall, for the proofs of callers: what goes through a call.
use Rattle.sql_schema.specs.{Prelude.{Error, Row, Query, IsAnswer, overlay, Database, State, HasCleanDisk, IsUnchanged, Survives, Shown, FailsToQuery, CommitsShowing, ExecutesInside, Hall, Command, Returning, Trees, survives_then}, Statements.{IsBack, IsQueryText, IsReturningText}, WriteLaws.shown_wrote, StatementLaws.{query_refused, shown_same, query_survives}, QueryLaws.shown_answer, Described.hall_schema, HallRows.HallRows, Spelling.{Spells, SpellHall}, Holding.{Holds, Leaves, IsWithin, IsTableRead, IsHeld}}
use Rattle.std.proofs.Common.{◌≡◌, ◌⊎◌, inl, inr, ℕ, nat_eq, MatchBool, List, [], ◌∷◌, Ok, Err, Result, IfOk, IfErr, sym, ap, subst, ◌∙◌, IsTrue, refl, arith}

pub same_held : (old new : State) (h : Hall) → IsUnchanged old new → Holds old h → Holds new h
same_held old new h same held live =
    let was = held same.0.was_open in
    record {
      running = live;
      schema = ap (λ (d : Database). d.schema) same.0.now_is ∙ was.schema;
      spelt = subst (λ (d : Database). SpellHall d.trees h) (sym same.0.now_is) was.spelt;
      kept = same.0.committed_is ∙ was.kept ∙ sym same.0.now_is;
      autocommit = same.0.mode ∙ was.autocommit;
    }

-- what goes back to the last commit goes back to the hall
pub back_held : (old new : State) (h : Hall) → IsBack old new → Holds old h → Holds new h
back_held old new h (inl same) held live = same_held old new h same held live
back_held old new h (inr back) held live =
    let was = held (back.was_open live) in
    let gone = back.undone live in
    record {
      running = live;
      schema = ap (λ (d : Database). d.schema) (gone.0 ∙ was.kept) ∙ was.schema;
      spelt = subst (λ (d : Database). SpellHall d.trees h) (sym (gone.0 ∙ was.kept)) was.spelt;
      kept = gone.1 ∙ sym gone.0;
      autocommit = back.autocommit;
    }

-- a call that commits nothing adds no outcome of a crash
pub leaves_on : (old new : State) (hs : List Hall) → Survives old new (λ _. ⊥) → HasCleanDisk new → Leaves old hs → Leaves new hs
leaves_on old new hs s clean left db may = elim (s.crash clean db may) [ inl before ↦ left db before | inr none ↦ absurd none ]

-- while it is open a stop leaves the last commit, which is what it shows between calls
pub settles : (s : State) (h : Hall) → ((db : Trees) → IsTrue s.is_open → s.may_leave db → db ≡ s.committed.trees) → IsHeld s h → Leaves s (h ∷ [])
settles s h settled held db may = (h, inl refl, subst (λ d. SpellHall d h) (sym (settled db held.running may ∙ ap (λ (d : Database). d.trees) held.kept)) held.spelt)

-- a disk that is clean after a call was clean before it
pub earlier : {old new : State} {Commits : Trees → Type 0} → Survives old new Commits → HasCleanDisk new → HasCleanDisk old
earlier one clean = omega (arith, one.clean, clean)

-- no call, and one call after another one
pub survives_none : (a : State) → Survives a a (λ _. ⊥)
survives_none a = record { clean = omega arith; shield = λ shield. shield; counts = omega arith; limit = refl; closes = λ clean live. inl live; crash = λ clean db may. inl may }

pub survives_both : {a b c : State} → Survives a b (λ _. ⊥) → Survives b c (λ _. ⊥) → Survives a c (λ _. ⊥)
survives_both {a = a} {b = b} {c = c} one two = survives_then a b c _ _ (λ _. ⊥) (λ _ db none. none) (λ _ db none. none) one two

-- a crash that leaves one of some halls leaves one of these and one more
pub leaves_more : (s : State) (h : Hall) (hs : List Hall) → Leaves s hs → Leaves s (h ∷ hs)
leaves_more s h hs left db may = let it = left db may in (it.0, inr it.1, it.2)

-- a query whose text is known, of which the tables say what it answers
pub asked : {X : Type 0} (sql : List ℕ) (params : Row) {q : Query} → IsQueryText hall_schema sql q → (old new : State) (rows_of : X → List Row) (Right : Hall → X → Type 0) (r : Result X Error)
    → IfOk r (λ x. Shown sql params old new (rows_of x)) → IfErr r (FailsToQuery sql params old new) → Survives old new (CommitsShowing sql params old) → HasCleanDisk new
    → ((h : Hall) (x : X) → IsAnswer q (overlay old.now.trees []) params (rows_of x) → SpellHall old.now.trees h → Right h x) → IsTableRead old new r Right
asked sql params text old new rows_of Right (Ok x) ok err survives clean right = record {
  answer = λ h held. right h x (shown_answer hall_schema sql text params old new (rows_of x) held.schema ok) held.spelt;
  same = λ h held.
      let same = shown_same sql params hall_schema text.plain old new (rows_of x) held.schema ok in
      same_held old new h same (λ _. held) same.0.is_open;
  back = tt;
  crash = λ h held hs left. leaves_on old new hs (query_survives sql params hall_schema text.plain old new held.schema survives) clean left;
}
asked sql params text old new rows_of Right (Err e) ok err survives clean right = record {
  answer = tt;
  same = tt;
  back = λ h held. back_held old new h (query_refused sql params old new e err) (λ _. held);
  crash = λ h held hs left. leaves_on old new hs (query_survives sql params hall_schema text.plain old new held.schema survives) clean left;
}

-- an answer that is read from another one
pub asked_then : {X Y : Type 0} (old new : State) (Right : Hall → X → Type 0) (Reads : Hall → Y → Type 0) (x : X) (r : Result Y Error) → IsTableRead old new {E = Error} (Ok x) Right
    → IfOk r (λ y. (h : Hall) → Right h x → Reads h y) → IsTableRead old new r Reads
asked_then old new Right Reads x (Ok y) a gives = record { answer = λ h held. gives h (a.answer h held); same = a.same; back = tt; crash = a.crash }
asked_then old new Right Reads x (Err e) a gives = record { answer = tt; same = tt; back = λ h held live. a.same h held; crash = a.crash }

-- a refused read is refused whatever it was to read
pub asked_failed : {X Y : Type 0} (old new : State) (Right : Hall → X → Type 0) (Reads : Hall → Y → Type 0) (e : Error) → IsTableRead old new {Y = X} (Err e) Right → IsTableRead old new {Y = Y} (Err e) Reads
asked_failed old new Right Reads e a = record { answer = tt; same = tt; back = a.back; crash = a.crash }

-- a write inside a transaction, of which the tables say what it makes
pub within : (sql : List ℕ) (params : Row) (old new : State) (before : Hall) (was now : HallRows) (count : ℕ) → IsWithin old before was → ExecutesInside 0 sql params old new (Ok count) → Spells new.now now → IsWithin new before now
within sql params old new before was now count held ran spells = record {
  spelt = spells;
  committed_schema = ap (λ (d : Database). d.schema) ran.1.committed_is ∙ held.committed_schema;
  kept = subst (λ (d : Database). SpellHall d.trees before) (sym ran.1.committed_is) held.kept;
  mode = ran.1.mode;
}

-- a write with RETURNING inside a transaction
pub shown_within : (sql : List ℕ) (params : Row) (command : Command) (what : Returning) → IsReturningText hall_schema sql command what → (old new : State) (before : Hall) (was now : HallRows) (rows : List Row)
    → IsWithin old before was → Shown sql params old new rows → Spells new.now now → IsWithin new before now
shown_within sql params command what text old new before was now rows held shown spells =
    let it = shown_wrote sql params hall_schema command what text old new rows held.spelt.schema shown in
    let same : new.committed ≡ old.committed = rw held.mode at it.1.shown.committed_is in
    record {
      spelt = spells;
      committed_schema = ap (λ (d : Database). d.schema) same ∙ held.committed_schema;
      kept = subst (λ (d : Database). SpellHall d.trees before) (sym same) held.kept;
      mode = it.1.shown.mode ∙ held.mode;
    }

-- from how many rows were shown to whether one was
pub by_count : (shown n : ℕ) → shown ≡ n → (There Absent Free : Type 0) → (Absent × Free × (shown ≡ 0)) ⊎ (There × (shown ≡ 1)) → MatchBool (nat_eq n 1) There (Absent × Free)
by_count shown n same There Absent Free (inl it) = subst (λ k. MatchBool (nat_eq k 1) There (Absent × Free)) (sym it.2 ∙ same) (it.0, it.1)
by_count shown n same There Absent Free (inr it) = subst (λ k. MatchBool (nat_eq k 1) There (Absent × Free)) (sym it.1 ∙ same) it.0
