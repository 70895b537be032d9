-- Lists of what a function makes of items, which may be nothing.
use Rattle.sql_schema.specs.Words.{AllByRecursion, filter_map, cons_option, IsAscending, Has}
use Rattle.std.proofs.Common.{◌≡◌, inl, inr, List, [], ◌∷◌, Option, Some, None, refl, sym, ap, ◌∙◌}

pub all_mapped : {A B : Type 0} (P : A → Type 0) (Q : B → Type 0) (f : A → Option B) → ((x : A) (y : B) → f x ≡ Some y → P x → Q y) → (xs : List A) → AllByRecursion P xs → AllByRecursion Q (filter_map f xs)
all_mapped P Q f gives [] all = tt
all_mapped P Q f gives (x ∷ xs) all = go (f x) refl (all_mapped P Q f gives xs all.1)
  where
    go : (o : Option _) → f x ≡ o → AllByRecursion Q (filter_map f xs) → AllByRecursion Q (cons_option o (filter_map f xs))
    go None e more = more
    go (Some y) e more = (gives x y e all.0, more)

pub ascending_mapped : {A B : Type 0} (R : A → A → Type 0) (S : B → B → Type 0) (f : A → Option B) → ((x z : A) (y w : B) → f x ≡ Some y → f z ≡ Some w → R x z → S y w) → (xs : List A) → IsAscending R xs → IsAscending S (filter_map f xs)
ascending_mapped R S f gives [] up = tt
ascending_mapped R S f gives (x ∷ xs) up = go (f x) refl (ascending_mapped R S f gives xs up.1)
  where
    go : (o : Option _) → f x ≡ o → IsAscending S (filter_map f xs) → IsAscending S (cons_option o (filter_map f xs))
    go None e more = more
    go (Some y) e more = (all_mapped (R x) (S y) f (λ z w k low. gives x z y w e k low) xs up.0, more)

pub mapped_has : {A B : Type 0} (f : A → Option B) (xs : List A) (x : A) (y : B) → Has xs x → f x ≡ Some y → Has (filter_map f xs) y
mapped_has f [] x y h is = absurd h
mapped_has f (z ∷ xs) x y h is = go (f z) refl (λ found. mapped_has f xs x y found is) h
  where
    go : (o : Option _) → f z ≡ o → (Has xs x → Has (filter_map f xs) y) → Has (z ∷ xs) x → Has (cons_option o (filter_map f xs)) y
    go None e more (inl same) = absurd (let k = sym e ∙ ap f (sym same) ∙ is in cc)
    go None e more (inr h) = more h
    go (Some w) e more (inl same) = let k : Some w ≡ Some y = sym e ∙ ap f (sym same) ∙ is in let it : w ≡ y = cc in inl (sym it)
    go (Some w) e more (inr h) = inr (more h)
