-- What follows for what is chosen of a list of machines.
use Rattle.std.{specs.{Prelude.{◌≡◌, ◌⊎◌, zero, suc, List, [], ◌∷◌, Bool, false, Option, Some, None, is_some}, List.{All, Contains}}, proofs.{Common.{sym, subst, ◌∙◌, inl, inr, arith}, lemmas.{Option.same_Some, List.{Elements.{All-cons, All-nil, All-weaker, Contains-append_left, Contains-append_right, Contains-push}, Sorted.{All-permutation, Contains-permutation}}}}}
use Rattle.serde_json.specs.Data.{Data}
use Rattle.hallctl_texts.specs.{Choice.{AreInOrder, IsBarred, IsChosen, IsLetThrough, MayBeLeft, Picks, nothing, taken, left}, Listings.{LetsThrough}, declared.{choosing.Choice.Choice, listings.{Filter.Filter}}}

-- one of these objects, of which the fact holds
abbrev pub IsOneOf : (Data → Type 0) → List Data → Data → Type 0
IsOneOf Taken objects value = Contains objects value × Taken value

-- those of a list are those of a longer one
of_longer : (Taken : Data → Type 0) (first : Data) (objects picked : List Data) → All (IsOneOf Taken objects) picked → All (IsOneOf Taken (first ∷ objects)) picked
of_longer Taken first objects picked all =
    All-weaker (IsOneOf Taken objects) (IsOneOf Taken (first ∷ objects)) (λ value so. (Contains-append_right (first ∷ []) objects value so.0, so.1)) picked all

-- each that is picked is one of the list, and rightly taken
pub picked_are_of_list : {Taken Left : Data → Type 0} {objects picked : List Data} → Picks Taken Left objects picked → All (IsOneOf Taken objects) picked
picked_are_of_list {Taken} nothing = All-nil (IsOneOf Taken [])
picked_are_of_list {Taken} (taken first objects picked is others) =
    All-cons (IsOneOf Taken (first ∷ objects)) first picked (Contains-append_left (first ∷ []) objects first (Contains-push [] first), is)
    (of_longer Taken first objects picked (picked_are_of_list others))
picked_are_of_list {Taken} (left first objects picked is others) = of_longer Taken first objects picked (picked_are_of_list others)

-- what is one of a list is the first, or one of the others
first_or_later : (first : Data) (objects : List Data) (value : Data) → Contains (first ∷ objects) value → (first ≡ value) ⊎ Contains objects value
first_or_later first objects value (zero, within, is) = inl is
first_or_later first objects value (suc k, within, is) = inr (k, omega (arith, within), is)

-- none is missing of those that may not be left out
pub none_is_left : {Taken Left : Data → Type 0} {objects picked : List Data} → Picks Taken Left objects picked → (value : Data) → (Left value → ⊥) → Contains objects value
    → Contains picked value
none_is_left nothing value stays there = there
none_is_left (taken first objects picked is others) value stays there =
    elim (first_or_later first objects value there) as (λ _. Contains (first ∷ picked) value) [
      | inl same ↦ subst (Contains (first ∷ picked)) same (Contains-append_left (first ∷ []) picked first (Contains-push [] first))
      | inr later ↦ Contains-append_right (first ∷ []) picked value (none_is_left others value stays later)
    ]
none_is_left {Taken} {Left} (left first objects picked is others) value stays there =
    elim (first_or_later first objects value there) as (λ _. Contains picked value) [
      | inl same ↦ absurd (stays (subst Left same is))
      | inr later ↦ none_is_left others value stays later
    ]

-- objects that were put in order are the same ones
in_order_all : {C : Type 0} (column : Option C) (P : Data → Type 0) (picked chosen : List Data) → AreInOrder column picked chosen → All P picked → All P chosen
in_order_all None P picked chosen same all = subst (All P) (sym same) all
in_order_all (Some column) P picked chosen moved all = All-permutation P picked chosen moved all

in_order_contains : {C : Type 0} (column : Option C) (picked chosen : List Data) (value : Data) → AreInOrder column picked chosen → Contains picked value → Contains chosen value
in_order_contains None picked chosen value same there = subst (λ (l : List Data). Contains l value) (sym same) there
in_order_contains (Some column) picked chosen value moved there = Contains-permutation picked chosen value moved there

-- each object that is chosen is one of the list, and says a machine that the filter lets through
pub chosen_are_let_through : {choice : Choice} {answer : Data} {chosen : List Data} (so : IsChosen choice answer chosen) → All (IsOneOf (IsLetThrough choice.filter) so.objects) chosen
chosen_are_let_through {choice} {answer} {chosen} so =
    in_order_all choice.sort (IsOneOf (IsLetThrough choice.filter) so.objects) so.picked chosen so.is_in_order (picked_are_of_list so.is_picked)

-- an object can't be both
barred_or_not : (filter : Filter) (value : Data) → IsLetThrough filter value → IsBarred filter value → ⊥
barred_or_not filter value let_through barred =
    barred.2 (subst (LetsThrough filter) (same_Some let_through.0 barred.0 (sym let_through.1 ∙ barred.1)) let_through.2)

-- without a search no object is missing that says a machine that the filter lets through
pub none_is_missing : {choice : Choice} {answer : Data} {chosen : List Data} (so : IsChosen choice answer chosen) → is_some choice.search ≡ false
    → (value : Data) → Contains so.objects value → IsLetThrough choice.filter value → Contains chosen value
none_is_missing {choice} {answer} {chosen} so no_search value there let_through =
    in_order_contains choice.sort so.picked chosen value so.is_in_order
    (none_is_left so.is_picked value (λ may. barred_or_not choice.filter value let_through (subst (λ (b : Bool). MayBeLeft choice.filter b value) no_search may)) there)
