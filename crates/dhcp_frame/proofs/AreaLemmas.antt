-- One step through an option area, whole areas, and values of a code.
use Rattle.std.{proofs.{Common.{◌≡◌, ◌≢◌, ℕ, ◌<◌, List, [], ◌∷◌, ◌++◌, length, Some, None, refl, sym, ap, ◌∙◌, arith}, lemmas.{Bool.{eq-eqb, ne_eqb, lt-ltb}, List.append-nil}}, specs.Prelude.unwrap_or}
use Rattle.dhcp_frame.specs.{Area.{Entry, reading, entries_of, IsWhole, AreWhole, value_of}, AreaLaws.{reading-nothing, reading-padding, reading-end, reading-option}}

pub reading-empty : (octets : List ℕ) → length octets ≡ 0 → reading octets ≡ Some []
reading-empty [] h = reading-nothing
reading-empty (b ∷ octets) h = absurd (omega arith)

pub reading-bare : (code : ℕ) (octets : List ℕ) → code ≢ 0 → code ≢ 255 → length octets ≡ 0 → reading (code ∷ octets) ≡ None
unfolding reading
reading-bare code [] low high h = rw (ne_eqb code 0 low, ne_eqb code 255 high) refl
reading-bare code (b ∷ octets) low high h = absurd (omega arith)

pub reading-short : (code n : ℕ) (octets : List ℕ) → code ≢ 0 → code ≢ 255 → length octets < n → reading (code ∷ n ∷ octets) ≡ None
unfolding reading
reading-short code n octets low high short = rw (ne_eqb code 0 low, ne_eqb code 255 high, lt-ltb (length octets) n short) refl

pub ruleset area_steps = (reading-empty, reading-padding, reading-end, reading-bare, reading-short, reading-option)

-- ---- three areas in turn

pub AreWhole-one : (octets : List ℕ) → IsWhole octets → AreWhole octets [] []
unfolding reading
AreWhole-one octets h = record { first = h; second = refl; third = refl }

pub entries_of-one : (octets : List ℕ) → entries_of octets ++ entries_of [] ++ entries_of [] ≡ entries_of octets
unfolding reading
entries_of-one octets = append-nil (entries_of octets ++ []) ∙ append-nil (entries_of octets)

-- ---- values

pub value_of-same : (code : ℕ) (value : List ℕ) (es : List Entry) → value_of code ((code, value) ∷ es) ≡ Some (value ++ unwrap_or (value_of code es) [])
value_of-same code value es = rw (eq-eqb code code refl) refl

pub value_of-other : (code other : ℕ) (value : List ℕ) (es : List Entry) → (other ≡ code → ⊥) → value_of code ((other, value) ∷ es) ≡ value_of code es
value_of-other code other value es ne = rw (ne_eqb other code ne) refl

-- ---- whether an area is whole

pub reading-whole : (octets : List ℕ) → IsWhole octets → reading octets ≡ Some (entries_of octets ++ entries_of [] ++ entries_of [])
reading-whole octets h = h ∙ ap (λ (es : List Entry). Some es) (sym (entries_of-one octets))

pub ruleset whole_steps = (reading-whole, AreWhole-one, entries_of-one, reading-nothing)
