-- Lists of values, and what is picked of them.
use Rattle.std.{proofs.{Common.{◌≡◌, ℕ, ◌+◌, ◌<◌, List, [], ◌∷◌, ◌++◌, None, Result, Ok, Err, IfErr, refl, sym, ap, ◌∙◌, map, length, get_or, take}, lemmas.List.{get_or-map, length-map, map_more}}}
use Rattle.serde_json.specs.{Data.{Data}, View.{view, items_of}, declared.value.Value.{Value}}
use Rattle.hallctl_texts.specs.{Choice.{Picks, SomeSaysNone, nothing, taken, left}, Listings.listed_at, Members.values}

-- an array's values are those that it was made of
pub values_again : (list : List Data) → values (items_of list) ≡ list
values_again [] = refl
values_again (first ∷ others) = ap (λ (l : List Data). first ∷ l) (values_again others)

-- one object more, which is taken
pub picks_taken : {Taken Left : Data → Type 0} {objects picked : List Data} → Picks Taken Left objects picked → (value : Data) → Taken value
    → Picks Taken Left (objects ++ value ∷ []) (picked ++ value ∷ [])
picks_taken nothing value so = taken value [] [] so nothing
picks_taken (taken first objects picked is others) value so = taken first _ _ is (picks_taken others value so)
picks_taken (left first objects picked is others) value so = left first _ _ is (picks_taken others value so)

-- one object more, which is left out
pub picks_left : {Taken Left : Data → Type 0} {objects picked : List Data} → Picks Taken Left objects picked → (value : Data) → Left value
    → Picks Taken Left (objects ++ value ∷ []) picked
picks_left nothing value so = left value [] [] so nothing
picks_left (taken first objects picked is others) value so = taken first _ _ is (picks_left others value so)
picks_left (left first objects picked is others) value so = left first _ _ is (picks_left others value so)

-- the data of the elements up to one more
view_more : (objects : List Value) (i : ℕ) (item : Value) → i < length objects → item ≡ get_or objects i item
    → map view (take (i + 1) objects) ≡ map view (take i objects) ++ view item ∷ []
view_more objects i item within is = map_more view objects i item within ∙ ap (λ (x : Value). map view (take i objects) ++ view x ∷ []) (sym is)

-- one element more, which is taken
pub takes_more : {Taken Left : Data → Type 0} (objects : List Value) (i : ℕ) (item : Value) (picked more : List Data) → i < length objects → item ≡ get_or objects i item
    → Picks Taken Left (map view (take i objects)) picked → Taken (view item) → more ≡ picked ++ view item ∷ [] → Picks Taken Left (map view (take (i + 1) objects)) more
takes_more objects i item picked more within is so_far so now = rw (view_more objects i item within is) (rw now (picks_taken so_far (view item) so))

-- one element more, which is left out
pub leaves_more : {Taken Left : Data → Type 0} (objects : List Value) (i : ℕ) (item : Value) (picked more : List Data) → i < length objects → item ≡ get_or objects i item
    → Picks Taken Left (map view (take i objects)) picked → Left (view item) → more ≡ picked → Picks Taken Left (map view (take (i + 1) objects)) more
leaves_more objects i item picked more within is so_far so now = rw (view_more objects i item within is) (rw now (picks_left so_far (view item) so))

-- an element that says no machine
pub says_none : (objects : List Value) (i : ℕ) (item : Value) → i < length objects → item ≡ get_or objects i item → listed_at (view item) ≡ None → SomeSaysNone (map view objects)
says_none objects i item within is none =
    (i, view item, rw length-map within, get_or-map view objects i item (view item) within ∙ ap view (sym is), none)

-- a fact of each fault, of a result's
pub fault_says : {T E : Type 0} {P : E → Type 0} (result : Result T E) → ((fault : E) → P fault) → IfErr result P
fault_says (Ok value) says = tt
fault_says (Err fault) says = says fault
