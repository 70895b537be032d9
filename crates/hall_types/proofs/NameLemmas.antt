-- A name is found in its octets, which are ASCII.
use Rattle.std.{proofs.{Common.{◌≡◌, ◌≢◌, ℕ, zero, suc, ◌-◌, ◌≤◌, ◌<◌, ◌&&◌, true, List, [], ◌∷◌, ◌++◌, length, replicate, get_or, All, refl, sym, ap, subst, ◌∙◌, arith, append-nil, length-append}, lemmas.{Bool.{ne_eqb, and_parts, Decides.nat_tests}, List.{take_at, take_all, get_or_append_left, Elements.{All-nil, All-cons, All-head, All-tail, All-append}, Sums.position_or_len_is}, Str.IsUtf8-from_ascii}, Math.Seq.get_or-append_seam}, specs.{Prelude.{◌==◌, IsAscii, IsUtf8}, List.list_all, Char.is_ascii_lowercase}}
use Rattle.hall_types.specs.Name.{is_name_octet, is_name, IsName, filled, name_in}

-- an octet of a name is ASCII and not zero
abbrev pub IsPlain : ℕ → Type 0
IsPlain octet = (octet ≢ 0) × (octet < 128)

plain : (octet : ℕ) → is_name_octet octet ≡ true → IsPlain octet
plain octet h = (λ z. zero_is_none (ap is_name_octet (sym z) ∙ h), low octet h)
  where
    zero_is_none : is_name_octet 0 ≡ true → ⊥
    zero_is_none e = cc

    low : (octet : ℕ) → is_name_octet octet ≡ true → octet < 128
    low octet h = grind (arith, nat_tests)

plain_octets : (octets : List ℕ) → list_all is_name_octet octets ≡ true → All IsPlain octets
plain_octets [] h = All-nil IsPlain
plain_octets (octet ∷ octets) h =
    let parts = and_parts (is_name_octet octet) (list_all is_name_octet octets) h in
    All-cons IsPlain octet octets (plain octet parts.0) (plain_octets octets parts.1)

pub plain_name : (text : List ℕ) → IsName text → All IsPlain text
unfolding is_name
plain_name [] h = absurd cc
plain_name (first ∷ others) h =
    let parts = and_parts (is_ascii_lowercase first && list_all is_name_octet others) _ h in
    let both = and_parts (is_ascii_lowercase first) (list_all is_name_octet others) parts.0 in
    let head : is_name_octet first ≡ true = rw both.0 refl in
    All-cons IsPlain first others (plain first head) (plain_octets others both.1)

-- a name with zeros behind it ends there
pub name_in-filled : (text : List ℕ) → IsName text → length text ≤ 32 → name_in (filled text) ≡ text
name_in-filled text h short = by (32 - length text)
  where
    p : All IsPlain text
    p = plain_name text h

    by : (n : ℕ) → name_in (text ++ replicate n 0) ≡ text
    by zero =
        let here = position_or_len_is (λ (octet : ℕ). octet == 0) text (length text) 1 (omega arith)
        (λ k below. ne_eqb (get_or text k 1) 0 (p k 1 below).0) (λ below. absurd (omega arith)) in
        rw (append-nil text, here) (take_all (length text) text (omega arith))
    by (suc n) =
        let rest = replicate n 0 in
        let long : length text < length (text ++ 0 ∷ rest) = omega (arith, length-append text (0 ∷ rest)) in
        let here = position_or_len_is (λ (octet : ℕ). octet == 0) (text ++ 0 ∷ rest) (length text) 1 (omega arith)
        (λ k below. rw (get_or_append_left text (0 ∷ rest) 1 k below) (ne_eqb (get_or text k 1) 0 (p k 1 below).0))
        (λ _. rw (get_or-append_seam text 0 rest 1) refl) in
        rw here (take_at text (0 ∷ rest) (length text) refl)

-- ---- a name's octets are a text

ascii : (octets : List ℕ) → All (λ octet. octet < 128) octets → IsAscii octets
ascii [] h i = omega arith
ascii (octet ∷ octets) h zero = All-head (λ o. o < 128) octet octets h
ascii (octet ∷ octets) h (suc i) = ascii octets (All-tail (λ o. o < 128) octet octets h) i

low_zeros : (n : ℕ) → All (λ octet. octet < 128) (replicate n 0)
low_zeros zero = All-nil (λ o. o < 128)
low_zeros (suc n) = All-cons (λ o. o < 128) 0 (replicate n 0) (omega arith) (low_zeros n)

pub IsUtf8-filled : (text : List ℕ) → IsName text → IsUtf8 (filled text)
IsUtf8-filled text h =
    IsUtf8-from_ascii (filled text)
    (ascii (filled text) (All-append (λ o. o < 128) text (replicate (32 - length text) 0) (λ i d below. (plain_name text h i d below).1) (low_zeros (32 - length text))))

-- ---- steps

pub kept : (octets text : List ℕ) → octets ≡ filled text → IsName text → length text ≤ 32 → IsName (name_in octets) × (octets ≡ filled (name_in octets))
kept octets text is h short =
    let e : name_in octets ≡ text = ap name_in is ∙ name_in-filled text h short in
    (subst IsName (sym e) h, is ∙ ap filled (sym e))

pub found : (octets text : List ℕ) → octets ≡ filled text → IsName text → length text ≤ 32 → name_in octets ≡ text
found octets text is h short = ap name_in is ∙ name_in-filled text h short

pub no_fault : (octets : List ℕ) → IsName (name_in octets) → octets ≡ filled (name_in octets) → (IsUtf8 octets → ⊥) → ⊥
no_fault octets h is not_text = not_text (subst IsUtf8 (sym is) (IsUtf8-filled (name_in octets) h))

pub ruleset name_steps = (kept, found, no_fault)
