-- How many marks are set.
use Rattle.std.{proofs.{Common.{◌≡◌, ◌≢◌, ◌<◌, ◌≤◌, ◌+◌, ◌-◌, ◌*◌, ◌/◌, ◌∙◌, ℕ, Bool, true, false, List, Some, All, inl, inr, zero, suc, length, max, not, get_or, set, slice_index, replicate, ap, arith, refl, sym}, lemmas.{Bool.{cases_eq, cases_lt}, Grind.{common_steps, get_or-set_at}, List.{get_or-replicate, get_or-set_other, get_or_past, get_or_read, length-replicate}, List.Elements.All-from_get_or, Option.{slice_get-get_or}}}, specs.Bool.beq}
use Rattle.serve_sockets.specs.Marks.{AreClear, AreCounts, count_set, one_if}

one_few : (is : Bool) → one_if is ≤ 1
one_few true = omega arith
one_few false = omega arith

one_none : (is : Bool) → one_if is ≡ 0 → is ≡ false
one_none true none = cc
one_none false none = refl

one_other : (was is : Bool) → not (beq was is) ≡ true → one_if was + one_if is ≡ 1
one_other true true differs = cc
one_other true false differs = refl
one_other false true differs = refl
one_other false false differs = cc

-- a list of one value has that one before its end and past it
get_or-same : {X : Type 0} (x : X) (size k : ℕ) → get_or (replicate size x) k x ≡ x
get_or-same x size k = grind (arith, common_steps, get_or-replicate, get_or_past, get_or_read, length-replicate)

-- no more are set than there are
pub count_few : (marks : List Bool) (from count : ℕ) → count_set marks from count ≤ count
unfolding count_set
count_few marks from zero = omega arith
count_few marks from (suc count) = omega (arith, count_few marks from count, one_few (get_or marks (from + count) false))

-- a mark of another seat doesn't count
pub count_other : (marks : List Bool) (seat : ℕ) (is : Bool) (from count : ℕ) → (from ≤ seat → from + count ≤ seat)
    → count_set (set marks seat is) from count ≡ count_set marks from count
unfolding count_set
count_other marks seat is from zero apart = refl
count_other marks seat is from (suc count) apart =
    let ne : from + count ≢ seat = λ here. omega (arith, apart (omega arith)) in
    let before : count_set (set marks seat is) from count ≡ count_set marks from count = count_other marks seat is from count (λ above. omega (arith, apart above)) in
    omega (arith, before, ap one_if (get_or-set_other marks seat (from + count) is false ne))

-- a mark is changed, and the count by it
pub count_there : (marks : List Bool) (seat : ℕ) (is : Bool) (from count : ℕ) → seat < length marks → from ≤ seat → seat < from + count
    → count_set (set marks seat is) from count + one_if (get_or marks seat false) ≡ count_set marks from count + one_if is
unfolding count_set
count_there marks seat is from zero inside above below = absurd (omega arith)
count_there marks seat is from (suc count) inside above below =
    elim (cases_eq (from + count) seat) [
      | inl here ↦
          let set_here : get_or (set marks seat is) (from + count) false ≡ is = get_or-set_at marks seat (from + count) is false here inside in
          let was : get_or marks (from + count) false ≡ get_or marks seat false = ap (λ (k : ℕ). get_or marks k false) here in
          omega (arith, ap one_if set_here, ap one_if was, count_other marks seat is from count (λ low. omega arith))
      | inr apart ↦
          omega (arith, ap one_if (get_or-set_other marks seat (from + count) is false apart), count_there marks seat is from count inside above (omega arith))
    ]

-- none is set where none is counted
pub count_none : (marks : List Bool) (from count k : ℕ) → count_set marks from count ≡ 0 → from ≤ k → k < from + count → get_or marks k false ≡ false
unfolding count_set
count_none marks from zero k none above below = absurd (omega arith)
count_none marks from (suc count) k none above below =
    elim (cases_eq k (from + count)) [
      | inl here ↦ ap (λ (j : ℕ). get_or marks j false) here ∙ one_none (get_or marks (from + count) false) (omega arith)
      | inr apart ↦ count_none marks from count k (omega arith) above (omega arith)
    ]

-- none is set at first
pub count_new : (seats from count : ℕ) → count_set (replicate seats false) from count ≡ 0
unfolding count_set
count_new seats from zero = refl
count_new seats from (suc count) = rw (get_or-same false seats (from + count)) (omega (arith, count_new seats from count))

-- where none is counted, all are clear
pub clear_none : (marks : List Bool) (from count : ℕ) → count_set marks from count ≡ 0 → AreClear marks from (from + count)
clear_none marks from count none k above below inside =
    slice_get-get_or marks k false inside ∙ ap Some (count_none marks from count k none above below)

-- where none is counted of all, all are clear
pub all_clear : (marks : List Bool) (count : ℕ) → length marks ≤ count → count_set marks 0 count ≡ 0 → All (λ is. is ≡ false) marks
all_clear marks count few none =
    All-from_get_or (λ (is : Bool). is ≡ false) marks false (λ k inside. count_none marks 0 count k none (omega arith) (omega arith))

-- no mark before the block, and none of the block
pub clear_block : (marks : List Bool) (from block : ℕ) → AreClear marks from (64 * block) → count_set marks (64 * block) 64 ≡ 0 → AreClear marks from (64 * (block + 1))
clear_block marks from block before none k above below inside =
    elim (cases_lt k (64 * block)) [
      | inl earlier ↦ before k above earlier inside
      | inr there ↦ clear_none marks (64 * block) 64 none k there (omega arith) inside
    ]

-- no mark before the block, and none of the block from one on
pub clear_rest : (marks : List Bool) (from block : ℕ) → AreClear marks from (64 * block) → AreClear marks (max from (64 * block)) (64 * block + 64)
    → AreClear marks from (64 * (block + 1))
clear_rest marks from block before rest k above below inside =
    elim (cases_lt k (64 * block)) [
      | inl earlier ↦ before k above earlier inside
      | inr there ↦ rest k (omega arith) (omega arith) inside
    ]

-- a mark is changed, and its block's number by it
pub counts_set : (marks : List Bool) (counts : List ℕ) (seat count : ℕ) (is : Bool) → AreCounts marks counts → seat < length marks → seat / 64 < length counts
    → count + one_if (get_or marks seat false) ≡ slice_index counts (seat / 64) + one_if is
    → AreCounts (set marks seat is) (set counts (seat / 64) count)
counts_set marks counts seat count is counted inside block_inside changed block =
    elim (cases_eq block (seat / 64)) [
      | inl here ↦
          let same : get_or counts block 0 ≡ get_or counts (seat / 64) 0 = ap (λ (k : ℕ). get_or counts k 0) here in
          get_or-set_at counts (seat / 64) block count 0 here block_inside
          ∙ omega (arith, same, counted block, count_there marks seat is (64 * block) 64 inside (omega arith) (omega arith))
      | inr apart ↦
          get_or-set_other counts (seat / 64) block count 0 apart ∙ counted block
          ∙ sym (count_other marks seat is (64 * block) 64 (λ above. omega arith))
    ]

-- at first no mark is set, and none is counted
pub counts_new : (seats : ℕ) → AreCounts (replicate seats false) (replicate 17 0)
counts_new seats block = get_or-same 0 17 block ∙ sym (count_new seats (64 * block) 64)

-- ---- the mark of a seat is changed

-- The marks are counted, and a seat's mark isn't yet what it is to be.
pub record Change (marks : List Bool) (counts : List ℕ) (total seat : ℕ) (was is : Bool) : Type 0 where
  pub counted : AreCounts marks counts
  pub all : total ≡ count_set marks 0 1027
  pub few : length marks ≤ 1027
  pub inside : seat < length marks
  pub block : seat / 64 < length counts
  pub read : was ≡ get_or marks seat was
  pub differs : not (beq was is) ≡ true

module _ {marks : List Bool} {counts : List ℕ} {total seat : ℕ} {was is : Bool} (change : Change marks counts total seat was is) where
  -- one of the mark as it was and as it is to be is set
  one_of_both : one_if (get_or marks seat false) + one_if is ≡ 1
  one_of_both = rw (← get_or_read marks seat was change.inside change.read false) (one_other was is change.differs)

  block_there : count_set (set marks seat is) (64 * (seat / 64)) 64 + one_if (get_or marks seat false) ≡ slice_index counts (seat / 64) + one_if is
  block_there =
      count_there marks seat is (64 * (seat / 64)) 64 change.inside (omega arith) (omega arith)
      ∙ ap (λ (n : ℕ). n + one_if is) (sym (change.counted (seat / 64)))

  total_there : count_set (set marks seat is) 0 1027 + one_if (get_or marks seat false) ≡ total + one_if is
  total_there = count_there marks seat is 0 1027 change.inside (omega arith) (omega arith) ∙ ap (λ (n : ℕ). n + one_if is) (sym change.all)

  pub block_few : slice_index counts (seat / 64) ≤ 64
  block_few = rw (change.counted (seat / 64)) (count_few marks (64 * (seat / 64)) 64)

  pub total_few : total ≤ 1027
  total_few = rw change.all (count_few marks 0 1027)

  pub block_some : is ≡ false → 1 ≤ slice_index counts (seat / 64)
  block_some cleared = omega (arith, block_there, one_of_both, ap one_if cleared)

  pub total_some : is ≡ false → 1 ≤ total
  total_some cleared = omega (arith, total_there, one_of_both, ap one_if cleared)

  pub blocks_up : is ≡ true → AreCounts (set marks seat is) (set counts (seat / 64) (slice_index counts (seat / 64) + 1))
  blocks_up marked =
      counts_set marks counts seat (slice_index counts (seat / 64) + 1) is change.counted change.inside change.block
      (omega (arith, one_of_both, ap one_if marked))

  pub blocks_down : is ≡ false → AreCounts (set marks seat is) (set counts (seat / 64) (slice_index counts (seat / 64) - 1))
  blocks_down cleared =
      counts_set marks counts seat (slice_index counts (seat / 64) - 1) is change.counted change.inside change.block
      (omega (arith, block_some cleared, one_of_both, ap one_if cleared))

  pub total_up : is ≡ true → total + 1 ≡ count_set (set marks seat is) 0 1027
  total_up marked = omega (arith, total_there, one_of_both, ap one_if marked)

  pub total_down : is ≡ false → total - 1 ≡ count_set (set marks seat is) 0 1027
  total_down cleared = omega (arith, total_there, one_of_both, ap one_if cleared)
