-- What is known after a change.
use Rattle.std.{proofs.Common.{◌≡◌, false, List, [], ◌∷◌, Result, Ok, Err, Some, refl, ◌∙◌, subst, sym, ◌||◌, Bool, true}, specs.{Prelude.{Option, option_map, IfSome, All}, List.list_any, Result.is_ok}}
use Rattle.hall_types.{specs.{Hall.{Hall, applied, written}, Rows.at, Tables.{interfaces, is_among, tables_of}, declared.{change.RowWrite.RowWrite, machine.Interface.Interface}}, proofs.WriteLemmas.changes_only}
use Rattle.hall_store.specs.{Store.{Base, IsWrite}, Known.{AreOf, changes_interfaces}, Lists.AreListsOf, Cached.{Keeps, inner}, declared.cached.Cached.Cached}

or_false : (a b : Bool) → (a || b) ≡ false → (a ≡ false) × (b ≡ false)
or_false true b is = cc
or_false false b is = (refl, is)

-- a change without a row of an interface leaves them as they were
pub same_interfaces : (rows : List RowWrite) (h : Hall) → changes_interfaces rows ≡ false → (applied rows h).interfaces ≡ h.interfaces
same_interfaces [] h none = refl
same_interfaces (row ∷ rows) h none =
    let parts = or_false (is_among interfaces (tables_of row)) (list_any (λ r. is_among interfaces (tables_of r)) rows) none in
    same_interfaces rows (written row h) parts.1 ∙ (changes_only row h).interfaces parts.0

-- and so what is known is right afterwards
pub still_known : (rows : List RowWrite) (h : Hall) (slots : List (Option Interface)) → changes_interfaces rows ≡ false → AreOf h slots → AreOf (applied rows h) slots
still_known rows h slots none are =
    subst (λ rows'. All (λ slot. IfSome slot (λ i. option_map (λ x. x.machine) (at rows' i.mac) ≡ Some i.machine)) slots) (sym (same_interfaces rows h none)) are

module _ {S : Type 0} (holds : S → Hall → Type 0) (leaves : S → List Hall → Type 0) (over : S → Option Base → Type 0) {Y E : Type 0} (old new : Cached S) (rows : List RowWrite) where
  -- a write of the store within is one of the store around it, where what is known is right afterwards
  pub written_around : (r : Result Y E) → IsWrite holds leaves over (inner old) (inner new) r (λ h. rows)
      → ((h : Hall) → AreOf h old.known.slots.items → AreOf (applied rows h) new.known.slots.items)
      → ((h : Hall) → AreOf h old.known.slots.items → AreOf h new.known.slots.items)
      → ((h : Hall) → AreListsOf h new.lists)
      → new.is_settled ≡ is_ok r
      → IsWrite (Keeps holds leaves) (λ cached hs. leaves (inner cached) hs) (λ cached base. over (inner cached) base) old new r (λ h. rows)
  written_around (Ok y) w after same forgotten settled = record {
    made = λ h kept keep. record { held = w.made h kept.held keep; known = after h kept.known; lists = forgotten (applied rows h); settled = λ is. w.settled h kept.held keep };
    versions = λ h kept keep. w.versions h kept.held keep;
    same = tt;
    crash = λ h kept keep hs left. w.crash h kept.held keep hs left;
    settled = λ h kept keep. w.settled h kept.held keep;
    base = w.base;
  }
  written_around (Err e) w after same forgotten settled = record {
    made = tt;
    versions = tt;
    same = λ h kept. record { held = w.same h kept.held; known = same h kept.known; lists = forgotten h; settled = λ is. absurd cc };
    crash = λ h kept keep hs left. w.crash h kept.held keep hs left;
    settled = tt;
    base = w.base;
  }
