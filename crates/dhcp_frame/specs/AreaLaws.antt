-- Laws of option areas: the program `reading` finds the options of an area, and there are no others.
use Rattle.std.{proofs.{Common.{◌≡◌, ◌≢◌, ℕ, zero, suc, ◌≤◌, List, [], ◌∷◌, ◌++◌, length, take, drop, Option, Some, None, refl, sym, ap, subst, ◌∙◌, arith, inl, inr, length-append, length-drop}, lemmas.{Bool.{le-ltb, cases_eq, eq-eqb, ne_eqb, cases_lt, lt-ltb}, Option.same_Some, List.{take_at, drop_at, take-append-drop, length-take-le}}}, specs.{Prelude.{◌==◌, nat_lt, if◌then◌else◌}, Option.option_map}}
use Rattle.dhcp_frame.specs.Area.{Entry, Reads, nothing, padding, end, option, reading, reading_within, option_then}

-- the options after an option are read from fewer octets
option_then-same : (code : ℕ) (octets : List ℕ) (f g : List ℕ → Option (List Entry)) → ((xs : List ℕ) → length xs ≤ length octets → f xs ≡ g xs) → option_then code octets f ≡ option_then code octets g
option_then-same code [] f g h = refl
option_then-same code (n ∷ octets) f g h =
    ap (λ (o : Option (List Entry)). if nat_lt (length octets) n then None else option_map (λ es. (code, take n octets) ∷ es) o) (h (drop n octets) (omega (arith, length-drop n octets)))

-- with at least as many steps as octets, the options are the same
pub reading_within-enough : (j k : ℕ) (octets : List ℕ) → length octets ≤ j → length octets ≤ k → reading_within j octets ≡ reading_within k octets
reading_within-enough j k [] hj hk = refl
reading_within-enough zero k (code ∷ octets) hj hk = absurd (omega arith)
reading_within-enough (suc j) zero (code ∷ octets) hj hk = absurd (omega arith)
reading_within-enough (suc j) (suc k) (code ∷ octets) hj hk =
    let others = option_then-same code octets (reading_within j) (reading_within k) (λ xs h. reading_within-enough j k xs (omega arith) (omega arith)) in
    ap (λ (o : Option (List Entry)). if code == 0 then o else if code == 255 then Some [] else option_then code octets (reading_within j)) (reading_within-enough j k octets (omega arith) (omega arith))
    ∙ ap (λ (o : Option (List Entry)). if code == 0 then reading_within k octets else if code == 255 then Some [] else o) others

-- ---- reading, a step at a time

pub reading-nothing : reading [] ≡ Some []
unfolding reading
reading-nothing = refl

pub reading-padding : (octets : List ℕ) → reading (0 ∷ octets) ≡ reading octets
unfolding reading
reading-padding octets = refl

pub reading-end : (octets : List ℕ) → reading (255 ∷ octets) ≡ Some []
unfolding reading
reading-end octets = refl

pub reading-option : (code n : ℕ) (octets : List ℕ) → code ≢ 0 → code ≢ 255 → n ≤ length octets → reading (code ∷ n ∷ octets) ≡ option_map (λ es. (code, take n octets) ∷ es) (reading (drop n octets))
unfolding reading
reading-option code n octets low high long =
    let rest = reading_within-enough (suc (length octets)) (length (drop n octets)) (drop n octets) (omega (arith, length-drop n octets)) (omega arith) in
    rw (ne_eqb code 0 low, ne_eqb code 255 high, le-ltb (length octets) n long, rest) refl

-- ---- the relation and the program

-- `reading` finds the options that an area holds
pub reading-from_Reads : {octets : List ℕ} {es : List Entry} → Reads octets es → reading octets ≡ Some es
reading-from_Reads nothing = reading-nothing
reading-from_Reads (padding rest es r) = reading-padding rest ∙ reading-from_Reads r
reading-from_Reads (end rest) = reading-end rest
reading-from_Reads (option octets code value rest es low high is r) =
    let long : length value ≤ length (value ++ rest) = omega (arith, length-append value rest) in
    ap reading is
    ∙ reading-option code (length value) (value ++ rest) low high long
    ∙ rw (take_at value rest (length value) refl, drop_at value rest (length value) refl, reading-from_Reads r) refl

-- where `option_map` gives something, it was given something
option_map-some : {A B : Type 0} (f : A → B) (o : Option A) (y : B) → option_map f o ≡ Some y → (x : A) × (o ≡ Some x) × (f x ≡ y)
option_map-some f None y e = absurd cc
option_map-some f (Some x) y e = (x, refl, same_Some (f x) y e)

-- the length, the value and the other options, where an option isn't cut
option_then-some : (code : ℕ) (octets : List ℕ) (f : List ℕ → Option (List Entry)) (es : List Entry) → option_then code octets f ≡ Some es → (n : ℕ) × (rest : List ℕ) × (others : List Entry) × (octets ≡ n ∷ rest) × (n ≤ length rest) × (f (drop n rest) ≡ Some others) × ((code, take n rest) ∷ others ≡ es)
option_then-some code [] f es e = absurd cc
option_then-some code (n ∷ rest) f es e =
    elim (cases_lt (length rest) n) [
      | inl lt ↦ absurd (let gone = rw (lt-ltb (length rest) n lt) at e in cc)
      | inr le ↦
          let given = option_map-some (λ (x : List Entry). (code, take n rest) ∷ x) (f (drop n rest)) es (rw (le-ltb (length rest) n le) at e) in
          (n, rest, given.0, refl, le, given.1, given.2)
    ]

-- an option's octets are its code, its value's length, its value and the rest
option_octets : (code : ℕ) (octets : List ℕ) (n : ℕ) (rest : List ℕ) → octets ≡ n ∷ rest → n ≤ length rest → code ∷ octets ≡ code ∷ length (take n rest) ∷ take n rest ++ drop n rest
option_octets code octets n rest is long = rw (is, length-take-le n rest long, take-append-drop n rest) refl

-- the same within any number of steps
Reads-from_within : (k : ℕ) (octets : List ℕ) (es : List Entry) → reading_within k octets ≡ Some es → Reads octets es
Reads-from_within k [] es e = subst (λ (x : List Entry). Reads [] x) (same_Some [] es e) nothing
Reads-from_within zero (code ∷ octets) es e = absurd cc
Reads-from_within (suc k) (code ∷ octets) es e =
    elim (cases_eq code 0) [
      | inl is ↦
          let rest : Reads octets es = Reads-from_within k octets es (rw (eq-eqb code 0 is) at e) in
          subst (λ (x : ℕ). Reads (x ∷ octets) es) (sym is) (padding octets es rest)
      | inr low ↦ elim (cases_eq code 255) [
        | inl is ↦
            let none : [] ≡ es = same_Some [] es (rw (ne_eqb code 0 low, eq-eqb code 255 is) at e) in
            subst (λ (x : ℕ). Reads (x ∷ octets) es) (sym is) (subst (λ (x : List Entry). Reads (255 ∷ octets) x) none (end octets))
        | inr high ↦
            let (n, rest, others, is, long, given, whole) = option_then-some code octets (reading_within k) es (rw (ne_eqb code 0 low, ne_eqb code 255 high) at e) in
            let value = take n rest in
            let is_option = option_octets code octets n rest is long in
            subst (λ (x : List Entry). Reads (code ∷ octets) x) whole
            (option (code ∷ octets) code value (drop n rest) others low high is_option (Reads-from_within k (drop n rest) others given))
      ]
    ]

-- an area holds the options that `reading` finds
pub Reads-from_reading : (octets : List ℕ) (es : List Entry) → reading octets ≡ Some es → Reads octets es
unfolding reading
Reads-from_reading octets es e = Reads-from_within (length octets) octets es e

-- an area holds at most one list of options
pub Reads-one : (octets : List ℕ) (es others : List Entry) → Reads octets es → Reads octets others → es ≡ others
Reads-one octets es others r s = same_Some es others (sym (reading-from_Reads r) ∙ reading-from_Reads s)
