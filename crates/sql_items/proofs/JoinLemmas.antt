-- Machines joined with their kinds of erasing are those of the hall.
use Rattle.sql_schema.specs.Words.{AllByRecursion, filter_map, cons_option, nat_tests, drop-drop, IsAscending, Erase, Machine, Wipe, wipe_of}
use Rattle.std.proofs.{Common.{◌≡◌, ◌+◌, ◌==◌, ◌<◌, ◌++◌, ℕ, zero, suc, List, [], ◌∷◌, map, drop, drop-cons, append_assoc, get_or, length, slice_get, true, false, cond, Option, Some, None, option_map, refl, sym, ap, subst, ◌∙◌, arith}, lemmas.Bool.eq-eqb}
use Rattle.sql_items.{specs.{declared.wipes.Erasing.Erasing, Wipes.erasing, MachineRows.in_row, Joining.{joined, kind_at, kind_of, past}}, proofs.{ListLemmas.all_mapped, WipeLemmas.wipe_machine}}

-- ---- a step of the walk

pub steps : (es : List Erasing) (rows : List Machine) (i at : ℕ) → i < length rows → (row : Machine) → row ≡ get_or rows i row → (out all : List Machine) → out ++ joined es at (drop i rows) ≡ all
    → (kind : Option Erase) → kind ≡ kind_at es at row.id → (j next : ℕ) (more : List Machine) → j ≡ suc i → next ≡ past at kind → more ≡ out ++ (record row { erase = kind }) ∷ [] → more ++ joined es next (drop j rows) ≡ all
steps es rows i at low row is out all so_far kind found j next more one after pushed =
    rw (one, after, pushed, found) (append_assoc out ((record row { erase = kind_at es at row.id }) ∷ []) _
    ∙ ap (λ l. out ++ joined es at l) (sym (drop-cons rows i row low ∙ ap (λ x. x ∷ drop (suc i) rows) (sym is))) ∙ so_far)

-- ---- the whole walk

first_left : (es : List Erasing) (at : ℕ) → slice_get es at ≡ slice_get (drop at es) 0
first_left [] zero = refl
first_left [] (suc at) = refl
first_left (e ∷ es) zero = refl
first_left (e ∷ es) (suc at) = first_left es at

apart : (n k : ℕ) → n < k → (k == n) ≡ false
apart n k low = grind (arith, nat_tests)

none_later : (id : ℕ) (ws : List Wipe) → AllByRecursion (λ (w : Wipe). id < w.machine) ws → kind_of (slice_get (map erasing ws) 0) id ≡ None
none_later id [] later = refl
none_later id (w ∷ ws) later = ap (λ b. cond b (Some w.erase) None) (apart id w.machine later.0)

pub joins_all : (es : List Erasing) (ms : List Machine) (at : ℕ) → IsAscending (λ (a b : Machine). a.id < b.id) ms → drop at es ≡ map erasing (filter_map wipe_of ms) → joined es at (map in_row ms) ≡ ms
joins_all es [] at up left = refl
joins_all es (m ∷ ms) at up left = go m.erase refl left (λ next more. joins_all es ms next up.1 more)
  where
    later : AllByRecursion (λ (w : Wipe). m.id < w.machine) (filter_map wipe_of ms)
    later = all_mapped (λ (x : Machine). m.id < x.id) (λ (w : Wipe). m.id < w.machine) wipe_of (λ x w is low. subst (λ n. m.id < n) (sym (wipe_machine x w is)) low) ms up.0

    joins : (kind : Option Erase) → m.erase ≡ kind → kind_of (slice_get (drop at es) 0) m.id ≡ kind → joined es (past at kind) (map in_row ms) ≡ ms → joined es at (in_row m ∷ map in_row ms) ≡ m ∷ ms
    joins kind is found more =
        ap (λ k. (record m { erase = k }) ∷ joined es (past at k) (map in_row ms)) (ap (λ x. kind_of x m.id) (first_left es at) ∙ found)
        ∙ ap (λ l. (record m { erase = kind }) ∷ l) more ∙ ap (λ k. (record m { erase = k }) ∷ ms) (sym is)

    go : (o : Option Erase) → m.erase ≡ o → drop at es ≡ map erasing (cons_option (option_map (λ erase. record { machine = m.id; erase = erase }) o) (filter_map wipe_of ms))
        → ((next : ℕ) → drop next es ≡ map erasing (filter_map wipe_of ms) → joined es next (map in_row ms) ≡ ms) → joined es at (in_row m ∷ map in_row ms) ≡ m ∷ ms
    go None e left rest = joins None e (ap (λ l. kind_of (slice_get l 0) m.id) left ∙ none_later m.id (filter_map wipe_of ms) later) (rest at left)
    go (Some kind) e left rest =
        joins (Some kind) e (ap (λ l. kind_of (slice_get l 0) m.id) left ∙ ap (λ b. cond b (Some kind) None) (eq-eqb m.id m.id refl)) (rest (at + 1) (sym (drop-drop 1 at es) ∙ ap (drop 1) left))
