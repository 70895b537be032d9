-- Laws of keys of two parts, for the proofs of callers: which rows `WHERE` of such a key finds.
use Rattle.sql_schema.specs.{Prelude.{list_all, ordering_then, nat_cmp, slice_cmp, texts_ties, bytes_eq, Value, Null, Text, Binary, Row, is_true, holds, Compare, Eq, same_key, pair}, TableOf.{equal_from, pair_values}, ListLaws.and_true, ValueLaws.same_text}
use Rattle.std.proofs.Common.{◌≡◌, ◌&&◌, ◌++◌, ℕ, List, [], ◌∷◌, false, Ordering, Less, Equal, Greater, is_eq, refl, sym, ap₂, ◌∙◌}
use Rattle.sqlite.specs.Ops.{binary}
use Rattle.hall_types.specs.Rows.{pairs}

both_tie : (one other : Ordering) → is_eq (ordering_then one (ordering_then other Equal)) ≡ (is_eq one && is_eq other)
both_tie Less other = refl
both_tie Equal Less = refl
both_tie Equal Equal = refl
both_tie Equal Greater = refl
both_tie Greater other = refl

-- pairs are told apart as their parts are
pub same_pair : (a b c d : List ℕ) → same_key pairs (pair a b) (pair c d) ≡ (bytes_eq a c && bytes_eq b d)
unfolding pairs
same_pair a b c d = both_tie (slice_cmp nat_cmp a c) (slice_cmp nat_cmp b d) ∙ ap₂ (λ x y. x && y) (sym (texts_ties a c)) (sym (texts_ties b d))

text_null : (a : List ℕ) → is_true (binary (Compare Eq Binary) (Text a) Null) ≡ false
unfolding binary
text_null a = refl

-- what differs in its second part differs
untied : (one other : Ordering) → is_eq other ≡ false → is_eq (ordering_then one other) ≡ false
untied Equal other apart = apart
untied one other apart = refl

-- a row passes `WHERE` of a key if its key is that one
pub pair_tests : (second : List ℕ → Value) → ((b d : List ℕ) → is_true (binary (Compare Eq Binary) (second b) (second d)) ≡ bytes_eq b d)
    → (rowid : Value) (a b : List ℕ) (more : Row) (key : List (List ℕ)) (others : Row)
    → list_all (holds ((pair_values second key ++ others) ∷ (rowid ∷ Text a ∷ second b ∷ more) ∷ [])) (equal_from 0 2) ≡ same_key pairs (pair a b) key
unfolding pairs
pair_tests second same rowid a b more [] others = rw (text_null a) refl
pair_tests second same rowid a b more (c ∷ []) others = rw (text_null a, untied (slice_cmp nat_cmp a c) Greater refl) refl
pair_tests second same rowid a b more (c ∷ d ∷ []) others = ap₂ (λ x y. x && y) (same_text a c) (and_true _ ∙ same b d) ∙ sym (same_pair a b c d)
pair_tests second same rowid a b more (c ∷ d ∷ e ∷ rest) others = rw (text_null a, untied (slice_cmp nat_cmp a c) _ (untied (slice_cmp nat_cmp b d) Less refl)) refl
