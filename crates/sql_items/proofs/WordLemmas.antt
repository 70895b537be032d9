-- Words in one text.
use Rattle.sql_schema.specs.Words.{slice_split, join_by, join_with_byte, AllByRecursion, joined, words_in}
use Rattle.std.proofs.Common.{◌≡◌, map, ◌==◌, ℕ, List, [], ◌∷◌, ◌++◌, length, flat_map, false, refl, sym, ap, ◌∙◌, true≢false, append-nil}
use Rattle.ipxe_script.specs.{LineLaws.{each_apart, slice_split-join, space_in_no_word}, Word.{is_word, IsWord}}

-- texts joined by a space
join_more : {X : Type 0} (f : X → List ℕ) (first : List ℕ) (xs : List X) → first ++ flat_map (λ x. 32 ∷ f x) xs ≡ joined (first ∷ map f xs)
join_more f first [] = append-nil first
join_more f first (x ∷ xs) = ap (λ l. first ++ 32 ∷ l) (join_more f (f x) xs)

pub join_is : {X : Type 0} (f : X → List ℕ) (xs : List X) → join_by f (32 ∷ []) xs ≡ joined (map f xs)
join_is f [] = refl
join_is f (x ∷ xs) = join_more f (f x) xs

-- ---- the text gives its words back

as_line : (words : List (List ℕ)) → joined words ≡ join_with_byte 32 words
as_line [] = refl
as_line (word ∷ []) = refl
as_line (word ∷ next ∷ words) = ap (λ l. word ++ 32 ∷ l) (as_line (next ∷ words))

pub some_words : (text : List ℕ) → (length text == 0) ≡ false → words_in text ≡ slice_split (λ octet. octet == 32) text
some_words [] some = absurd (true≢false some)
some_words (octet ∷ octets) some = refl

cut : (text first : List ℕ) (others : List (List ℕ)) → IsWord first → slice_split (λ octet. octet == 32) text ≡ first ∷ others → words_in text ≡ first ∷ others
unfolding is_word
cut (octet ∷ octets) first others word is = is
cut [] [] others word is = absurd (true≢false (sym word))
cut [] (octet ∷ octets) others word is = absurd cc

pub gives_back : (words : List (List ℕ)) → AllByRecursion IsWord words → words_in (joined words) ≡ words
gives_back [] all = refl
gives_back (first ∷ others) all =
    let apart = each_apart 32 space_in_no_word (first ∷ others) all in
    cut (joined (first ∷ others)) first others all.0 (ap (slice_split (λ octet. octet == 32)) (as_line (first ∷ others)) ∙ slice_split-join 32 first others apart.0 apart.1)
