-- The first known architecture, one number at a time.
use Rattle.std.{proofs.Common.{◌≡◌, ℕ, ◌+◌, ◌*◌, ◌<◌, true, false, List, [], ◌∷◌, ◌++◌, length, Option, Some, None, refl, ap, ◌∙◌, arith}, specs.{Prelude.{is_some, slice_index, slice_range}, List.AllByRecursion, Option.option_or}}
use Rattle.pxe_vendor.specs.{Arch.{arch_of_dhcp_number, numbers_of, names_arch, class_numbers, first_known, FirstKnown}, Digits.decimal_value, declared.arch.Arch.Arch}

option_or-some : (o p : Option Arch) → is_some o ≡ true → option_or o p ≡ o
option_or-some None p h = absurd cc
option_or-some (Some arch) p h = refl

option_or-none : (o p : Option Arch) → is_some o ≡ false → option_or o p ≡ p
option_or-none None p h = refl
option_or-none (Some arch) p h = absurd cc

option_or-or : (o p q : Option Arch) → option_or o (option_or p q) ≡ option_or (option_or o p) q
option_or-or None p q = refl
option_or-or (Some arch) p q = refl

option_or-last : (o : Option Arch) → option_or o None ≡ o
option_or-last None = refl
option_or-last (Some arch) = refl

pub first_known-short : (octets : List ℕ) → length octets < 2 → first_known (numbers_of octets) ≡ None
unfolding first_known
first_known-short [] h = refl
first_known-short (last ∷ []) h = refl
first_known-short (high ∷ low ∷ octets) h = absurd (omega arith)

-- the first pair of octets, and the other ones
pair_split : (octets pair rest : List ℕ) → octets ≡ pair ++ rest → length pair ≡ 2 → octets ≡ slice_index pair 0 ∷ slice_index pair 1 ∷ rest
pair_split octets (high ∷ low ∷ []) rest is two = is
pair_split octets other rest is two = absurd (omega arith)

first_known-pair : (octets pair rest : List ℕ) → octets ≡ pair ++ rest → length pair ≡ 2 → first_known (numbers_of octets) ≡ option_or (arch_of_dhcp_number (256 * slice_index pair 0 + slice_index pair 1)) (first_known (numbers_of rest))
unfolding first_known
first_known-pair octets pair rest is two = ap (λ (x : List ℕ). first_known (numbers_of x)) (pair_split octets pair rest is two)

pub first_known-here : (octets pair rest : List ℕ) → octets ≡ pair ++ rest → length pair ≡ 2 → is_some (arch_of_dhcp_number (256 * slice_index pair 0 + slice_index pair 1)) ≡ true → first_known (numbers_of octets) ≡ arch_of_dhcp_number (256 * slice_index pair 0 + slice_index pair 1)
first_known-here octets pair rest is two h =
    first_known-pair octets pair rest is two ∙ option_or-some (arch_of_dhcp_number (256 * slice_index pair 0 + slice_index pair 1)) _ h

pub first_known-later : (octets pair rest : List ℕ) → octets ≡ pair ++ rest → length pair ≡ 2 → is_some (arch_of_dhcp_number (256 * slice_index pair 0 + slice_index pair 1)) ≡ false → first_known (numbers_of octets) ≡ first_known (numbers_of rest)
first_known-later octets pair rest is two h =
    first_known-pair octets pair rest is two ∙ option_or-none (arch_of_dhcp_number (256 * slice_index pair 0 + slice_index pair 1)) _ h

pub first_known-append : (xs ys : List ℕ) → first_known (xs ++ ys) ≡ option_or (first_known xs) (first_known ys)
unfolding first_known
first_known-append [] ys = refl
first_known-append (x ∷ xs) ys =
    ap (λ (o : Option Arch). option_or (arch_of_dhcp_number x) o) (first_known-append xs ys) ∙ option_or-or (arch_of_dhcp_number x) (first_known xs) (first_known ys)

pub first_known-class : (class : List ℕ) → names_arch class ≡ true → first_known (class_numbers class) ≡ arch_of_dhcp_number (decimal_value (slice_range class 15 20))
unfolding first_known
first_known-class class h = rw h (option_or-last (arch_of_dhcp_number (decimal_value (slice_range class 15 20))))

pub first_known-no_class : (class : List ℕ) → names_arch class ≡ false → first_known (class_numbers class) ≡ None
unfolding first_known
first_known-no_class class h = rw h refl

-- ---- the first that is known

FirstKnown-more : (n : ℕ) (ns : List ℕ) (arch : Arch) → arch_of_dhcp_number n ≡ None → FirstKnown ns arch → FirstKnown (n ∷ ns) arch
FirstKnown-more n ns arch unknown f = record {
  before = n ∷ f.before;
  number = f.number;
  after = f.after;
  whole = ap (λ (x : List ℕ). n ∷ x) f.whole;
  unknown = (unknown, f.unknown);
  known = f.known;
}

FirstKnown-at : (n : ℕ) (ns : List ℕ) (o : Option Arch) (arch : Arch) → arch_of_dhcp_number n ≡ o → option_or o (first_known ns) ≡ Some arch → (first_known ns ≡ Some arch → FirstKnown ns arch) → FirstKnown (n ∷ ns) arch
FirstKnown-at n ns None arch is e more = FirstKnown-more n ns arch is (more e)
FirstKnown-at n ns (Some here) arch is e more = record { before = []; number = n; after = ns; whole = refl; unknown = tt; known = is ∙ e }

pub FirstKnown-from_first_known : (ns : List ℕ) (arch : Arch) → first_known ns ≡ Some arch → FirstKnown ns arch
unfolding first_known
FirstKnown-from_first_known [] arch e = absurd cc
FirstKnown-from_first_known (n ∷ ns) arch e = FirstKnown-at n ns (arch_of_dhcp_number n) arch refl e (FirstKnown-from_first_known ns arch)

first_known-after : (before : List ℕ) (number : ℕ) (after : List ℕ) (arch : Arch) → AllByRecursion (λ n. arch_of_dhcp_number n ≡ None) before → arch_of_dhcp_number number ≡ Some arch → first_known (before ++ number ∷ after) ≡ Some arch
unfolding first_known
first_known-after [] number after arch unknown known = rw known refl
first_known-after (n ∷ before) number after arch unknown known = rw unknown.0 (first_known-after before number after arch unknown.1 known)

pub first_known-from_FirstKnown : (ns : List ℕ) (arch : Arch) → FirstKnown ns arch → first_known ns ≡ Some arch
first_known-from_FirstKnown ns arch f = ap first_known f.whole ∙ first_known-after f.before f.number f.after arch f.unknown f.known

pub ruleset arch_steps = (first_known-class, first_known-no_class, first_known-short, first_known-here, first_known-later, first_known-append)
