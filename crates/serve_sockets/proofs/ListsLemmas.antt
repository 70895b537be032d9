-- Which connection is the first of those that are wanted.
use Rattle.std.{proofs.{Common.{◌≡◌, ◌<◌, ◌≤◌, ◌+◌, ◌∙◌, ℕ, Bool, true, false, List, Option, Some, None, cond, get_or, length, nat_lt, ap, arith, refl, sym}, lemmas.{List.{get_or_default, Quantifiers.position-Some}, Bool.{ltb-true, ltb-false}, Option.slice_get_read}}, specs.List.position}
use Rattle.serve_sockets.specs.{Lists.{wants_at, wants_held, wants_in}, Table.number_at, declared.{connection.Connection.Connection, lists.Wanted.Wanted}}

-- a number that is smaller in the code is no greater in a clause
pub older_by : (a b x y : ℕ) → a ≡ x → b ≡ y → nat_lt a b ≡ true → x ≤ y
older_by a b x y left right is = omega (arith, left, right, ltb-true a b is)

-- a number that is no smaller in the code is no smaller in a clause
pub younger_by : (a b x y : ℕ) → a ≡ x → b ≡ y → nat_lt a b ≡ false → y ≤ x
younger_by a b x y left right is = omega (arith, left, right, ltb-false a b is)

module _ {T : Type 0} (what : Wanted) (slots : List (Option (Connection T))) where
  wants_there : (k : ℕ) → k < length slots → wants_at what slots k ≡ wants_in what (get_or slots k None)
  wants_there k inside = ap (wants_held what) (slice_get_read slots (length slots) k (get_or slots k None) refl inside (get_or_default slots k None (get_or slots k None) inside))

  -- the lowest slot whose connection is wanted
  pub lowest_wants : (slot : ℕ) → position (wants_in what) slots ≡ Some slot
      → (slot < length slots) × (wants_at what slots slot ≡ true) × ((k : ℕ) → k < slot → wants_at what slots k ≡ true → number_at slots slot ≤ number_at slots k)
  lowest_wants slot found =
      let there = position-Some (wants_in what) slots slot None found in (
        there.0,
        wants_there slot there.0 ∙ there.1,
        λ k below wanted.
            let both : true ≡ false = sym wanted ∙ wants_there k (omega (arith, below, there.0)) ∙ there.2 k below in
            let no : ◌≡◌ {A = ℕ} 1 0 = ap (λ (b : Bool). cond b 1 0) both in
            omega (arith, no),
      )

  -- the first of the wanted ones before a place and of that at it
  pub first_to : (best new place : ℕ) → ((k : ℕ) → k < place → wants_at what slots k ≡ true → number_at slots best ≤ number_at slots k)
      → number_at slots new ≤ number_at slots best → (wants_at what slots place ≡ true → number_at slots new ≤ number_at slots place)
      → (k : ℕ) → k < place + 1 → wants_at what slots k ≡ true → number_at slots new ≤ number_at slots k
  first_to best new place before better last k below wanted =
      elim (nat_lt k place) as (λ b. nat_lt k place ≡ b → number_at slots new ≤ number_at slots k) [
        | true ↦ λ e. omega (arith, better, before k (ltb-true k place e) wanted)
        | false ↦ λ e. let here : k ≡ place = omega (arith, below, ltb-false k place e) in rw here (last (rw here at wanted))
      ] refl
