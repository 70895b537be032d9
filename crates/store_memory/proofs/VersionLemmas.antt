-- The versions of machines after row writes.
use Rattle.std.proofs.{Common.{◌≡◌, ◌≢◌, ◌==◌, ◌<◌, ◌++◌, ◌+◌, ℕ, List, [], ◌∷◌, Option, Some, None, true, false, length, take, drop, get_or, option_map, refl, sym, ap, arith, ◌∙◌}, lemmas.{Bool.{eqb-true, Decides.nat_tests}, Grind.common_steps}}
use Rattle.store_memory.specs.Prelude.{Hall, applied, written, at-put-same, at-put-other, at-gone-same, at-gone-other, RowWrite, PutMachine, MachineGone, Machine, HasVersion, HaveVersions, version_of}

apart : (a b : ℕ) → (a == b) ≡ false → b ≢ a
apart a b is same = grind (arith, nat_tests)

module _ (h : Hall) (id : ℕ) where
  pub put_here : (m : Machine) (was : Option ℕ) → (m.id == id) ≡ true → Some m.version ≡ version_of (written (PutMachine m was) h) id
  put_here m was is =
      sym (ap (λ key. version_of (written (PutMachine m was) h) key) (sym (eqb-true m.id id is)) ∙ ap (option_map (λ x. x.version)) (at-put-same h.machines m.id m))

  pub put_other : (m : Machine) (was : Option ℕ) → (m.id == id) ≡ false → version_of h id ≡ version_of (written (PutMachine m was) h) id
  put_other m was is = sym (ap (option_map (λ x. x.version)) (at-put-other h.machines m.id m id (apart m.id id is)))

  pub gone_here : (gone : ℕ) → (gone == id) ≡ true → None ≡ version_of (written (MachineGone gone) h) id
  gone_here gone is =
      sym (ap (λ key. version_of (written (MachineGone gone) h) key) (sym (eqb-true gone id is)) ∙ ap (option_map (λ x. x.version)) (at-gone-same h.machines gone))

  pub gone_other : (gone : ℕ) → (gone == id) ≡ false → version_of h id ≡ version_of (written (MachineGone gone) h) id
  gone_other gone is = sym (ap (option_map (λ x. x.version)) (at-gone-other h.machines gone id (apart gone id is)))

-- ---- writes in turn

pub applied_last : (ws : List RowWrite) (w : RowWrite) (h : Hall) → applied (ws ++ w ∷ []) h ≡ written w (applied ws h)
applied_last [] w h = refl
applied_last (v ∷ ws) w h = applied_last ws w (written v h)

pub versions_last : (ws : List RowWrite) (w : RowWrite) (h : Hall) → HaveVersions ws h → HasVersion w (applied ws h) → HaveVersions (ws ++ w ∷ []) h
versions_last [] w h all last = (last, tt)
versions_last (v ∷ ws) w h all last = (all.0, versions_last ws w (written v h) all.1 last)

pub take_next : {A : Type 0} (xs : List A) (i : ℕ) (x : A) → i < length xs → x ≡ get_or xs i x → take (i + 1) xs ≡ take i xs ++ x ∷ []
take_next xs i x low is = grind (arith, common_steps)

-- a row write in the midst of others has its version after those before it
pub versions_in : (before : List RowWrite) (w : RowWrite) (after : List RowWrite) (h : Hall) → HaveVersions (before ++ w ∷ after) h → HasVersion w (applied before h)
versions_in [] w after h all = all.0
versions_in (v ∷ before) w after h all = versions_in before w after (written v h) all.1

pub split_here : {A : Type 0} (xs : List A) (i : ℕ) (x : A) → i < length xs → x ≡ get_or xs i x → xs ≡ take i xs ++ x ∷ drop (i + 1) xs
split_here xs i x low is = grind (arith, common_steps)
