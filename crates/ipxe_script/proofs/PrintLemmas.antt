-- A line's words, each but the first after a space.
use Rattle.std.{proofs.{Common.{◌≡◌, ℕ, List, [], ◌∷◌, ◌++◌, refl, sym, ap, ◌∙◌, append_assoc}, lemmas.List.append-nil}, specs.List.{flat_map, join_with_byte}}
use Rattle.ipxe_script.specs.Text.{space}

pub join_with_byte-cons : (first : List ℕ) (words : List (List ℕ)) → join_with_byte space (first ∷ words) ≡ first ++ flat_map (λ word. space ∷ word) words
join_with_byte-cons first [] = sym (append-nil first)
join_with_byte-cons first (next ∷ words) = ap (λ (x : List ℕ). first ++ (space ∷ x)) (join_with_byte-cons next words)

pub ruleset print_steps = (join_with_byte-cons, append_assoc)
