-- Which connection goes, and how many undecided ones each bucket has.
use Rattle.std.proofs.{Common.{◌≡◌, ◌≢◌, ◌<◌, ◌≤◌, ◌+◌, ◌==◌, ◌∙◌, ℕ, Fits, w16, Bool, true, false, List, Option, Some, None, IfSome, MatchOption, cond, length, nat_lt, slice_index, slice_index_or, slice_set, take, ap, arith, refl, subst, sym}, lemmas.{Bool.{eqb-false, eqb-true, ltb-true, ltb-false}, List.{take_all, length-take, get_or-set_other, get_or-set_same, Sums.{count_by-le-length, sum_by_more}}}}
use Rattle.serve_sockets.specs.{Table.number_at, Yielding.{IsAhead, IsTally, bucket_in, crowd_at, crowd_by, crowd_of, is_bucket}, declared.connection.Connection.Connection}

-- a smaller number is no greater
pub less_than : (a b : ℕ) → nat_lt a b ≡ true → a ≤ b
less_than a b is = omega (arith, ltb-true a b is)

module _ {T : Type 0} (slots : List (Option (Connection T))) where
  -- a connection goes no later than itself
  pub ahead_self : (slot : ℕ) → IsAhead slots slot slot
  ahead_self slot = (omega arith, λ same. omega arith)

  -- a connection that goes no later than another one goes no later than those which the other goes no later than
  pub ahead_past : (a b c : ℕ) → IsAhead slots a b → IsAhead slots b c → IsAhead slots a c
  ahead_past a b c first next = (
    omega (arith, first.0, next.0),
    λ same.
        let left : crowd_at slots a ≡ crowd_at slots b = omega (arith, first.0, next.0, same) in
        let right : crowd_at slots b ≡ crowd_at slots c = omega (arith, first.0, next.0, same) in
        omega (arith, first.1 left, next.1 right),
  )

  -- a connection of a greater crowd goes first
  pub ahead_larger : (a b crowd rival : ℕ) → crowd ≡ crowd_at slots a → rival ≡ crowd_at slots b → rival < crowd → IsAhead slots a b
  ahead_larger a b crowd rival first other larger = (omega (arith, first, other, larger), λ same. omega (arith, first, other, larger, same))

  -- the connection that goes first by its crowd, or by its number where the crowds are the same
  pub ahead_by : (a b crowd rival number next : ℕ) → crowd ≡ crowd_at slots a → rival ≡ crowd_at slots b → number ≡ number_at slots a → next ≡ number_at slots b
      → crowd ≡ rival → number ≤ next → IsAhead slots a b
  ahead_by a b crowd rival number next first other left right same older = (omega (arith, first, other, same), λ equal. omega (arith, left, right, older))

  -- likewise, where the crowds differ
  pub ahead_not : (a b crowd rival : ℕ) → crowd ≡ crowd_at slots a → rival ≡ crowd_at slots b → crowd ≢ rival → rival ≤ crowd → IsAhead slots a b
  ahead_not a b crowd rival first other unlike most =
      let larger : rival < crowd = omega (arith, unlike, most) in
      ahead_larger a b crowd rival first other larger

  -- the first of the slots before a place and of that at it
  pub ahead_to : (best new place : ℕ) → ((k : ℕ) → k < place → IsAhead slots best k) → IsAhead slots new best → IsAhead slots new place
      → (k : ℕ) → k < place + 1 → IsAhead slots new k
  ahead_to best new place before better last k below =
      elim (nat_lt k place) as (λ b. nat_lt k place ≡ b → IsAhead slots new k) [
        | true ↦ λ e. ahead_past new best k better (before k (ltb-true k place e))
        | false ↦ λ e. let here : k ≡ place = omega (arith, below, ltb-false k place e) in rw here last
      ] refl

  -- how many undecided connections the bucket that was found has, by the count of each bucket
  pub crowd_found : (counts : List ℕ) (found : Option ℕ) (made : ℕ) (P : ℕ → Type 0) → IsTally counts slots → IfSome found (λ bucket. bucket < 1024)
      → MatchOption found (made ≡ 0) P → ((bucket : ℕ) → bucket < 1024 → P bucket → made ≡ slice_index counts bucket) → made ≡ crowd_by slots found
  crowd_found counts None made P tally within is reads = is
  crowd_found counts (Some bucket) made P tally within is reads = reads bucket within is ∙ tally bucket within

  -- what one more slot adds to how many undecided connections a bucket has
  crowd_more : (i g : ℕ) (held : Option (Connection T)) → i < length slots → held ≡ slice_index_or slots i held
      → crowd_of (take (i + 1) slots) g ≡ crowd_of (take i slots) g + cond (is_bucket g (bucket_in held)) 1 0
  crowd_more i g held inside at =
      let counts : Option (Connection T) → ℕ = λ x. cond (is_bucket g (bucket_in x)) 1 0 in
      sum_by_more counts slots i held inside ∙ ap (λ x. crowd_of (take i slots) g + counts x) (sym at)

  -- one more undecided connection of a bucket still fits
  pub crowd_fits : (counts : List ℕ) (i g : ℕ) → length slots ≤ 1024 → slice_index counts g ≡ crowd_of (take i slots) g → Fits w16 (slice_index counts g + 1)
  crowd_fits counts i g few counted =
      let within : crowd_of (take i slots) g ≤ length (take i slots) = count_by-le-length (λ held. is_bucket g (bucket_in held)) (take i slots) in
      omega (arith, few, counted, within, length-take i slots)

  -- the count of all slots
  pub tally_whole : (counts : List ℕ) (i : ℕ) → length slots ≤ i → (g : ℕ) → slice_index counts g ≡ crowd_of (take i slots) g → slice_index counts g ≡ crowd_of slots g
  tally_whole counts i past g counted = counted ∙ ap (λ (all : List (Option (Connection T))). crowd_of all g) (take_all i slots past)

  -- a slot whose connection isn't undecided counts nowhere
  pub tally_same : (counts : List ℕ) (i : ℕ) (held : Option (Connection T)) → i < length slots → held ≡ slice_index_or slots i held → bucket_in held ≡ None
      → ((g : ℕ) → g < 1024 → slice_index counts g ≡ crowd_of (take i slots) g)
      → (g : ℕ) → g < 1024 → slice_index counts g ≡ crowd_of (take (i + 1) slots) g
  tally_same counts i held inside at none so_far g below =
      let more = subst (λ (o : Option ℕ). crowd_of (take (i + 1) slots) g ≡ crowd_of (take i slots) g + cond (is_bucket g o) 1 0) none (crowd_more i g held inside at) in
      omega (arith, so_far g below, more)

  -- a slot whose connection is undecided counts in its bucket
  pub tally_more : (counts : List ℕ) (i h : ℕ) (held : Option (Connection T)) → i < length slots → held ≡ slice_index_or slots i held → bucket_in held ≡ Some h
      → h < 1024 → length counts ≡ 1024 → ((g : ℕ) → g < 1024 → slice_index counts g ≡ crowd_of (take i slots) g)
      → (g : ℕ) → g < 1024 → slice_index (slice_set counts h (slice_index counts h + 1)) g ≡ crowd_of (take (i + 1) slots) g
  tally_more counts i h held inside at some within size so_far g below =
      let more = subst (λ (o : Option ℕ). crowd_of (take (i + 1) slots) g ≡ crowd_of (take i slots) g + cond (is_bucket g o) 1 0) some (crowd_more i g held inside at) in
      let by : Bool → Type 0 = λ b. crowd_of (take (i + 1) slots) g ≡ crowd_of (take i slots) g + cond b 1 0 in
      elim (h == g) as (λ b. (h == g) ≡ b → slice_index (slice_set counts h (slice_index counts h + 1)) g ≡ crowd_of (take (i + 1) slots) g) [
        | true ↦ λ e.
            let same : h ≡ g = eqb-true h g e in
            let one : crowd_of (take (i + 1) slots) g ≡ crowd_of (take i slots) g + 1 = subst by e more in
            let there : slice_index (slice_set counts h (slice_index counts h + 1)) h ≡ slice_index counts h + 1 = get_or-set_same counts h (slice_index counts h + 1) 0 (omega (arith, within, size)) in
            subst (λ (k : ℕ). slice_index (slice_set counts h (slice_index counts h + 1)) k ≡ crowd_of (take (i + 1) slots) k) same
            (there ∙ omega (arith, so_far h within, subst (λ (k : ℕ). crowd_of (take (i + 1) slots) k ≡ crowd_of (take i slots) k + 1) (sym same) one))
        | false ↦ λ e.
            let none : crowd_of (take (i + 1) slots) g ≡ crowd_of (take i slots) g + 0 = subst by e more in
            let there : slice_index (slice_set counts h (slice_index counts h + 1)) g ≡ slice_index counts g = get_or-set_other counts h g (slice_index counts h + 1) 0 (λ same. eqb-false h g e (sym same)) in
            there ∙ omega (arith, so_far g below, none)
      ] refl
