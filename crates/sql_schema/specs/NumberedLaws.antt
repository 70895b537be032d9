-- Laws of tables with an INTEGER PRIMARY KEY, for the proofs of callers: the entries are the rows in the order of their numbers.
use Rattle.sql_schema.specs.{Prelude.{nat_cmp, MatchOrdering, ranked, int_cmp_is, ints, IsPermutation-sym, Binary, binary, is_true, Compare, Eq, value_cmp-Int, same_number, same-key, Row, has_key, map-id, ascending_weaker, any_is_found, Less-from_lt, Rows, at, listed, same_key}, Columns.number, TableOf.IsNumbered, Queries.{from_one, rising, IsBefore}, ListLaws.{and_true, has_none}, KeptLaws.has_along, ListedLaws.{AreRising-listed, at_listed, same_lists}}
use Rattle.std.proofs.Common.{◌≡◌, ◌<◌, ◌<ℤ◌, ℕ, pos, List, Ordering, Less, Equal, Greater, int_cmp, IsPermutation, int_eq, is_eq, false, true, true≢false, Option, Some, None, refl, sym, ap, subst, ◌∙◌, arith, ◌&&◌, ◌==◌, [], ◌∷◌}
use Rattle.sql_schema.specs.ValueLaws as value
use Rattle.hall_types.specs.Rows.{numbers}

-- numbers are compared as integers are
pub number_order : (a b : ℕ) → int_cmp (pos a) (pos b) ≡ numbers.cmp a b
unfolding numbers
number_order a b = sym (int_cmp_is (pos a) (pos b) (nat_cmp a b) (go (nat_cmp a b) (ranked a b (nat_cmp a b) refl)))
  where
    go : (o : Ordering) → MatchOrdering o (a < b) (a ≡ b) (b < a) → MatchOrdering o (pos a <ℤ pos b) (pos a ≡ pos b) (pos b <ℤ pos a)
    go Less h = omega (arith, ints, h)
    go Equal h = ap pos h
    go Greater h = omega (arith, ints, h)

pub number_key : (a b : ℕ) → int_eq (pos a) (pos b) ≡ same_key numbers a b
number_key a b = ap is_eq (number_order a b)

-- WHERE a number equals the parameter
pub equal_keys : (a b : ℕ) → (is_true (binary (Compare Eq Binary) (number a) (number b)) && true) ≡ same_key numbers a b
equal_keys a b = and_true _ ∙ value.same_number (pos a) (pos b) ∙ number_key a b

pub equal_numbers : (a b : ℕ) → (is_true (binary (Compare Eq Binary) (number a) (number b)) && true) ≡ (a == b)
equal_numbers a b = equal_keys a b ∙ same_number a b

-- ORDER BY the number, in whatever query
pub rises : (a b : ℕ) → numbers.cmp a b ≡ Less → IsBefore (from_one 0 [] [] (rising 0 ∷ [])) (number a ∷ [], []) (number b ∷ [], [])
rises a b low = rw (value_cmp-Int (pos a) (pos b), number_order a b, low) refl

module _ {X : Type 0} (number_of : X → ℕ) (columns : X → Row) (stored : List Row) (rows : Rows numbers X) (is : IsNumbered number_of columns stored rows) where
  same_entries : IsPermutation (listed rows) is.entries
  same_entries = subst (IsPermutation (listed rows)) (map-id is.entries) is.same

  -- a number that no entry has is no row's
  pub number_is_free : (n : ℕ) → has_key (λ x. pos (number_of x)) is.entries (pos n) ≡ false → at rows n ≡ None
  number_is_free n free = go (at rows n) refl
    where
      go : (o : Option X) → at rows n ≡ o → o ≡ None
      go None none = refl
      go (Some w) some =
          let apart = has_none (λ x. int_eq (pos (number_of x)) (pos n)) is.entries w (any_is_found _ is.entries ∙ free) (has_along w _ _ same_entries (at_listed numbers number_of rows is.under n w some)) in
          absurd (true≢false (sym (subst (λ k. same_key numbers (number_of w) k ≡ true) (is.under n w some) (same-key numbers (number_of w))) ∙ sym (number_key (number_of w) n) ∙ apart))

  pub numbered_entries : is.entries ≡ listed rows
  numbered_entries =
      same_lists numbers number_of is.entries (listed rows)
      (ascending_weaker _ _ (λ a b low. sym (number_order (number_of a) (number_of b)) ∙ Less-from_lt (pos (number_of a)) (pos (number_of b)) low) is.entries is.keyed)
      (AreRising-listed numbers number_of rows is.under) (λ z h. has_along z _ _ (IsPermutation-sym _ _ same_entries) h) (λ z h. has_along z _ _ same_entries h)
