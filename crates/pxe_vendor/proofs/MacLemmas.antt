-- Reading an address from the left, and printing one.
use Rattle.std.{proofs.{Common.{◌≡◌, ℕ, ◌+◌, ◌-◌, ◌*◌, ◌<◌, ◌≤◌, List, [], ◌∷◌, ◌++◌, length, take, drop, map, ◌/◌, ◌%◌, slice_index, slice_set, Option, Some, None, refl, sym, ap, ◌∙◌, arith}, lemmas.{Bool.{agree_below_at, ltb-true}, List.{append-nil, append_assoc, length-drop, length-take-le, map-append, take_all, take_more, take_more_set, drop_all, drop_more}}}, specs.{Prelude.{option_map, IfSome, nat_lt, true}, List.join_with_byte}}
use Rattle.hex.specs.Hex.{encode_lower, encode_with}
use Rattle.pxe_vendor.specs.{MacText.{IsMacText, digit, mac_text, mac_of, more_octets, octet_of, octet_then}, MacLaws.{more_octets-pair, more_octets-other, mac_of-long, mac_of-other, IsMacText-from_mac_of}}

-- ---- reading from the left

-- the octets read so far, and then the octets after them
abbrev pub read_then : List ℕ → Option (List ℕ) → Option (List ℕ)
read_then octets others = option_map (λ more. octets ++ more) others

-- the first two characters of a text, and the other ones
two_first : (text : List ℕ) → length text ≡ 17 → text ≡ slice_index text 0 ∷ slice_index text 1 ∷ drop 2 text
two_first [] h = absurd (omega arith)
two_first (a ∷ []) h = absurd (omega arith)
two_first (a ∷ b ∷ text) h = refl

mac_of-start : (text : List ℕ) → length text ≡ 17 → mac_of text ≡ octet_then (octet_of (slice_index text 0) (slice_index text 1)) (more_octets (drop 2 text))
mac_of-start text h = mac_of-long text h ∙ ap (λ (xs : List ℕ). more_octets (58 ∷ xs)) (two_first text h) ∙ more_octets-pair 58 _ _ (drop 2 text) refl

octet_then-ok : (octet : ℕ) (others : Option (List ℕ)) → octet_then (Some octet) others ≡ read_then (octet ∷ []) others
octet_then-ok octet None = refl
octet_then-ok octet (Some octets) = refl

pub mac_of-no_start : (text : List ℕ) → length text ≡ 17 → octet_of (slice_index text 0) (slice_index text 1) ≡ None → mac_of text ≡ None
mac_of-no_start text h e = mac_of-start text h ∙ rw e refl

pub mac_of-first : (text : List ℕ) (octet : ℕ) → length text ≡ 17 → octet_of (slice_index text 0) (slice_index text 1) ≡ Some octet → read_then (octet ∷ []) (more_octets (drop 2 text)) ≡ mac_of text
mac_of-first text octet h e = sym (mac_of-start text h ∙ rw e (octet_then-ok octet _))

-- what is left begins with a colon and two digits
three_left : (text : List ℕ) (i : ℕ) → 1 ≤ i → 3 * i + 1 < length text → drop (3 * i - 1) text ≡ slice_index text (3 * i - 1) ∷ slice_index text (3 * i) ∷ slice_index text (3 * i + 1) ∷ drop (3 * (i + 1) - 1) text
three_left text i low high =
    let a = drop_more text (3 * i - 1) 0 (omega arith) in
    let b = drop_more text (3 * i) 0 (omega arith) in
    let c = drop_more text (3 * i + 1) 0 (omega arith) in
    let second : 3 * i - 1 + 1 ≡ 3 * i = omega arith in
    let last : 3 * i + 1 + 1 ≡ 3 * (i + 1) - 1 = omega arith in
    rw (a, second, b, c, last) refl

read_then-none : (octets : List ℕ) (others whole : Option (List ℕ)) → read_then octets others ≡ whole → others ≡ None → whole ≡ None
read_then-none octets others whole e none = sym e ∙ rw none refl

pub mac_of-no_colon : (text octets : List ℕ) (i : ℕ) → 1 ≤ i → 3 * i + 1 < length text → (slice_index text (3 * i - 1) ≡ 58 → ⊥) → read_then octets (more_octets (drop (3 * i - 1) text)) ≡ mac_of text → mac_of text ≡ None
mac_of-no_colon text octets i low high other e =
    read_then-none octets _ _ e (ap more_octets (three_left text i low high) ∙ more_octets-other _ _ _ _ other)

pub mac_of-no_octet : (text octets : List ℕ) (i : ℕ) → 1 ≤ i → 3 * i + 1 < length text → slice_index text (3 * i - 1) ≡ 58 → octet_of (slice_index text (3 * i)) (slice_index text (3 * i + 1)) ≡ None → read_then octets (more_octets (drop (3 * i - 1) text)) ≡ mac_of text → mac_of text ≡ None
mac_of-no_octet text octets i low high colon none e =
    read_then-none octets _ _ e (ap more_octets (three_left text i low high) ∙ more_octets-pair _ _ _ _ colon ∙ rw none refl)

read_then-more : (octets : List ℕ) (octet : ℕ) (others : Option (List ℕ)) → read_then octets (octet_then (Some octet) others) ≡ read_then (octets ++ octet ∷ []) others
read_then-more octets octet None = refl
read_then-more octets octet (Some more) = ap (λ (xs : List ℕ). Some xs) (sym (append_assoc octets (octet ∷ []) more))

pub mac_of-more : (text address : List ℕ) (i octet : ℕ) → 1 ≤ i → 3 * i + 1 < length text → i < length address → slice_index text (3 * i - 1) ≡ 58 → octet_of (slice_index text (3 * i)) (slice_index text (3 * i + 1)) ≡ Some octet → read_then (take i address) (more_octets (drop (3 * i - 1) text)) ≡ mac_of text → read_then (take (i + 1) (slice_set address i octet)) (more_octets (drop (3 * (i + 1) - 1) text)) ≡ mac_of text
mac_of-more text address i octet low high room colon some e =
    let left = ap more_octets (three_left text i low high) ∙ more_octets-pair _ _ _ _ colon ∙ ap (λ (o : Option ℕ). octet_then o (more_octets (drop (3 * (i + 1) - 1) text))) some in
    ap (λ (octets : List ℕ). read_then octets (more_octets (drop (3 * (i + 1) - 1) text))) (take_more_set address i octet room)
    ∙ sym (read_then-more (take i address) octet _)
    ∙ ap (λ (others : Option (List ℕ)). read_then (take i address) others) (sym left)
    ∙ e

pub mac_of-all : (text address : List ℕ) (i : ℕ) → length text ≡ 17 → length address ≡ 6 → 6 ≤ i → read_then (take i address) (more_octets (drop (3 * i - 1) text)) ≡ mac_of text → mac_of text ≡ Some address
unfolding more_octets
mac_of-all text address i long six high e =
    sym e
    ∙ ap (λ (rest : List ℕ). read_then (take i address) (more_octets rest)) (drop_all (3 * i - 1) text (omega arith))
    ∙ ap (λ (xs : List ℕ). Some xs) (append-nil (take i address) ∙ take_all i address (omega arith))

pub ruleset mac_steps = (mac_of-other, mac_of-no_start, mac_of-first, mac_of-no_colon, mac_of-no_octet, mac_of-more, mac_of-all)

-- ---- printing

-- one more piece
join_with_byte-push : (c : ℕ) (piece last : List ℕ) (pieces : List (List ℕ)) → join_with_byte c ((piece ∷ pieces) ++ last ∷ []) ≡ join_with_byte c (piece ∷ pieces) ++ c ∷ last
join_with_byte-push c piece last [] = refl
join_with_byte-push c piece last (next ∷ pieces) =
    ap (λ (text : List ℕ). piece ++ c ∷ text) (join_with_byte-push c next last pieces)
    ∙ sym (append_assoc piece (c ∷ join_with_byte c (next ∷ pieces)) (c ∷ last))

mac_text-push : (octets : List ℕ) (octet : ℕ) → 0 < length octets → mac_text (octets ++ octet ∷ []) ≡ mac_text octets ++ 58 ∷ encode_lower (octet ∷ [])
mac_text-push [] octet h = absurd (omega arith)
mac_text-push (first ∷ octets) octet h =
    let pieces = map-append (λ (o : ℕ). encode_lower (o ∷ [])) (first ∷ octets) (octet ∷ []) in
    ap (λ (xs : List (List ℕ)). join_with_byte 58 xs) pieces ∙ join_with_byte-push 58 _ _ _

pub mac_text-take_first : (address : List ℕ) (i octet : ℕ) → i ≡ 0 → i < length address → octet ≡ slice_index address i → mac_text (take (i + 1) address) ≡ encode_lower (octet ∷ [])
mac_text-take_first [] i octet none room is = absurd (omega arith)
mac_text-take_first (first ∷ octets) i octet none room is = rw (none, is, none) refl

pub mac_text-take_more : (address : List ℕ) (i octet : ℕ) → 0 < i → i < length address → octet ≡ slice_index address i → mac_text (take (i + 1) address) ≡ mac_text (take i address) ++ 58 ∷ encode_lower (octet ∷ [])
mac_text-take_more address i octet some room is =
    let front = take_more address i 0 room in
    rw (front, ← is) (mac_text-push (take i address) octet (omega (arith, length-take-le i address (omega arith))))

pub ruleset print_steps = (mac_text-take_first, mac_text-take_more, append_assoc)

-- an octet's two digits, each of which is a character of ASCII
two_digits : (octet : ℕ) → encode_lower (octet ∷ []) ≡ digit (octet / 16) ∷ digit (octet % 16) ∷ []
unfolding encode_with
two_digits octet = refl

digit-ascii : (value : ℕ) → value < 16 → digit value < 128
digit-ascii value h = ltb-true _ _ (agree_below_at (λ (v : ℕ). nat_lt (digit v) 128) (λ (v : ℕ). true) 16 value refl h)

-- an octet is written as its two digits
pub octet_pushed : (octet a b : ℕ) (digits first second t u v : List ℕ) → octet < 256 → digits ≡ encode_lower (octet ∷ [])
    → a ≡ slice_index digits 0 → b ≡ slice_index digits 1 → (a < 128 → first ≡ a ∷ []) → (b < 128 → second ≡ b ∷ [])
    → u ≡ t ++ first → v ≡ u ++ second → v ≡ t ++ encode_lower (octet ∷ [])
octet_pushed octet a b digits first second t u v small is at_a at_b one other up vp =
    let two : digits ≡ digit (octet / 16) ∷ digit (octet % 16) ∷ [] = is ∙ two_digits octet in
    let high : a ≡ digit (octet / 16) = at_a ∙ ap (λ (d : List ℕ). slice_index d 0) two in
    let low : b ≡ digit (octet % 16) = at_b ∙ ap (λ (d : List ℕ). slice_index d 1) two in
    let p = one (rw high (digit-ascii (octet / 16) (omega arith))) in
    let q = other (rw low (digit-ascii (octet % 16) (omega arith))) in
    vp ∙ rw (up, p, q, high, low, two_digits octet) (append_assoc t (digit (octet / 16) ∷ []) (digit (octet % 16) ∷ []))

-- ---- what is read is an address

pub IfSome-mac_of : (text : List ℕ) (read : Option (List ℕ)) → read ≡ mac_of text → IfSome read (λ octets. IsMacText text octets)
IfSome-mac_of text None e = tt
IfSome-mac_of text (Some octets) e = IsMacText-from_mac_of text octets (sym e)
