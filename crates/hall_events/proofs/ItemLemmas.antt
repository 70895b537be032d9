-- Values that are made of the elements of a list, one after another.
use Rattle.std.proofs.{Common.{◌≡◌, ℕ, ◌+◌, ◌<◌, ◌≤◌, List, [], ◌∷◌, ◌++◌, map, length, get_or, drop, refl, sym, ap, ◌∙◌, add-one, drop-cons, append_assoc}, lemmas.List.{map_push, drop_all, append-nil}}
use Rattle.serde_json.specs.Data.{Data}

-- the element at a place comes before those after it
pub next_item : {A B : Type 0} (f : A → B) (xs : List A) (i : ℕ) (x : A) → i < length xs → x ≡ get_or xs i x → map f (drop i xs) ≡ f x ∷ map f (drop (i + 1) xs)
next_item f xs i x below at_i =
    let next : drop i xs ≡ x ∷ drop (i + 1) xs = rw (add-one, drop-cons xs i x, ← at_i) refl in
    ap (λ left. map f left) next

-- one value more
pub item_made : {V : Type 0} (view : V → Data) (items : List V) (value : V) (one : Data) (left more whole : List Data) → left ≡ one ∷ more → view value ≡ one → map view items ++ left ≡ whole → map view (items ++ value ∷ []) ++ more ≡ whole
item_made view items value one left more whole next is so_far =
    rw (map_push view items value, append_assoc, is) (ap (λ (rest : List Data). map view items ++ rest) (sym next) ∙ so_far)

-- no element is left
pub all_made : {A V : Type 0} (view : V → Data) (items : List V) (f : List A → List Data) (xs : List A) (i : ℕ) (whole : List Data) → f [] ≡ [] → length xs ≤ i → map view items ++ f (drop i xs) ≡ whole → map view items ≡ whole
all_made view items f xs i whole none above so_far =
    sym (append-nil (map view items)) ∙ ap (λ (rest : List Data). map view items ++ rest) (sym (ap f (drop_all i xs above) ∙ none)) ∙ so_far
