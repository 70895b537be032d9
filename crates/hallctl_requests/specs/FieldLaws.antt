-- Laws of the fields that a client sends: the desk reads the body's length and the token's digest in them.
use Rattle.std.{proofs.{Common.{◌≡◌, ◌<◌, ◌≤◌, ◌^◌, ℕ, Bool, true, false, List, [], ◌∷◌, ◌++◌, Some, map, length, reverse, refl, sym, ap, ◌∙◌, arith, append-nil}, lemmas.{Bool.{and_parts, and_from, le-leb, leb-true, or_from, false_from_ne_true, eqb-true, cond-false}, Fmt.decimal_nonempty, List.{length-reverse, reverse-append, Sums.{AllPass-from_list_all, list_all-from_AllPass}}}}, specs.{Prelude.{codes, decimal, nat_le, ◌&&◌, ◌==◌, Ok}, List.list_all, Char.is_ascii_digit}}
use Rattle.httparse.proofs.TrimLemmas.{trim_ows_space, AllPass-reverse}
use Rattle.hall_http.specs.DecimalLaws.{digits-decimal, length_is}
use Rattle.hallctl_requests.specs.{Prelude.{is_ows, skip_ows, trim_ows, is_value_byte, name_and_value, sha256, answer_text, request_text, HallCommand, Outcome, ◌>>=◌, is_visible, length_of, within_limit, body_length, bearer_digest, bearer}, Request.{Question, answer, command, fields_of, IsBearerToken}}

-- ---- tests of each octet

pub list_all_so : (p q : ℕ → Bool) → ((b : ℕ) → p b ≡ true → q b ≡ true) → (xs : List ℕ) → list_all p xs ≡ true → list_all q xs ≡ true
list_all_so p q f [] h = refl
list_all_so p q f (x ∷ xs) h =
    let both = and_parts (p x) (list_all p xs) h in
    and_from (q x) (list_all q xs) (f x both.0) (list_all_so p q f xs both.1)

-- a visible character isn't white space, and may stand in a field's value
visible_is_no_space : (b : ℕ) → is_visible b ≡ true → is_ows b ≡ false
visible_is_no_space b h =
    let low = leb-true 33 b (and_parts (nat_le 33 b) (nat_le b 126) h).0 in
    or_from (b == 32) (b == 9)
    (false_from_ne_true (b == 32) (λ e. omega (arith, low, eqb-true b 32 e)))
    (false_from_ne_true (b == 9) (λ e. omega (arith, low, eqb-true b 9 e)))

pub visible_is_value : (b : ℕ) → is_visible b ≡ true → is_value_byte b ≡ true
visible_is_value b h =
    let parts = and_parts (nat_le 33 b) (nat_le b 126) h in
    let low = leb-true 33 b parts.0 in
    let high = leb-true b 126 parts.1 in
    rw (le-leb 32 b (omega (arith, low)), false_from_ne_true (b == 9) (λ e. omega (arith, low, eqb-true b 9 e)), false_from_ne_true (b == 127) (λ e. omega (arith, high, eqb-true b 127 e))) refl

-- some visible characters, at most so many
pub record IsVisibleText (limit : ℕ) (text : List ℕ) : Type 0 where
  pub some : 0 < length text
  pub few : length text ≤ limit
  pub visible : list_all is_visible text ≡ true

pub visible_text : (limit : ℕ) (text : List ℕ) → (nat_le 1 (length text) && nat_le (length text) limit && list_all is_visible text) ≡ true → IsVisibleText limit text
visible_text limit text h =
    let both = and_parts (nat_le 1 (length text) && nat_le (length text) limit) (list_all is_visible text) h in
    let sizes = and_parts (nat_le 1 (length text)) (nat_le (length text) limit) both.0 in
    record { some = leb-true 1 (length text) sizes.0; few = leb-true (length text) limit sizes.1; visible = both.1 }

-- ---- values between white space

skip_front : (xs ys : List ℕ) → 0 < length xs → list_all is_visible xs ≡ true → skip_ows (xs ++ ys) ≡ xs ++ ys
skip_front [] ys some h = absurd (omega arith)
skip_front (x ∷ xs) ys some h =
    cond-false (is_ows x) (skip_ows (xs ++ ys)) (x ∷ (xs ++ ys)) (visible_is_no_space x (and_parts (is_visible x) (list_all is_visible xs) h).0)

visible-reverse : (xs : List ℕ) → list_all is_visible xs ≡ true → list_all is_visible (reverse xs) ≡ true
visible-reverse xs h = list_all-from_AllPass is_visible (reverse xs) (AllPass-reverse is_visible xs (AllPass-from_list_all is_visible xs h))

-- a value that ends in a visible character, with its first octet seen
trims : (first : ℕ) (front last : List ℕ) → is_ows first ≡ false → 0 < length last → list_all is_visible last ≡ true
    → trim_ows (32 ∷ first ∷ (front ++ last)) ≡ first ∷ (front ++ last)
trims first front last black some visible =
    trim_ows_space (first ∷ (front ++ last)) (cond-false (is_ows first) (skip_ows (front ++ last)) (first ∷ (front ++ last)) black)
    (ap skip_ows back ∙ skip_front (reverse last) (reverse (first ∷ front)) (omega (arith, same)) (visible-reverse last visible) ∙ sym back)
  where
    back : reverse (first ∷ (front ++ last)) ≡ reverse last ++ reverse (first ∷ front)
    back = reverse-append (first ∷ front) last

    same : length (reverse last) ≡ length last
    same = length-reverse last

pub trims_visible : (text : List ℕ) → 0 < length text → list_all is_visible text ≡ true → trim_ows (32 ∷ text) ≡ text
trims_visible text some visible =
    let back = visible-reverse text visible in
    trim_ows_space text (skip_all text some visible) (skip_all (reverse text) (omega (arith, length-reverse text)) back)
  where
    skip_all : (xs : List ℕ) → 0 < length xs → list_all is_visible xs ≡ true → skip_ows xs ≡ xs
    skip_all xs some visible = ap skip_ows (sym (append-nil xs)) ∙ skip_front xs [] some visible ∙ append-nil xs

-- ---- the length of the body

digit_is_visible : (b : ℕ) → is_ascii_digit b ≡ true → is_visible b ≡ true
digit_is_visible b h =
    let parts = and_parts (nat_le 48 b) (nat_le b 57) h in
    let low = leb-true 48 b parts.0 in
    let high = leb-true b 57 parts.1 in
    and_from (nat_le 33 b) (nat_le b 126) (le-leb 33 b (omega (arith, low))) (le-leb b 126 (omega (arith, high)))

pub visible-decimal : (n : ℕ) → n < 2 ^ 64 → list_all is_visible (decimal n) ≡ true
visible-decimal n h = list_all_so is_ascii_digit is_visible digit_is_visible (decimal n) (digits-decimal n h)

pub trims_decimal : (n : ℕ) → n < 2 ^ 64 → trim_ows (32 ∷ decimal n) ≡ decimal n
trims_decimal n h = trims_visible (decimal n) (decimal_nonempty n h) (visible-decimal n h)

size_is : (n : ℕ) → n ≤ 16384 → (length_of (Some (trim_ows (32 ∷ decimal n))) >>= within_limit) ≡ Ok n
size_is n h = ap (λ (text : List ℕ). length_of (Some text) >>= within_limit) (trims_decimal n (omega arith)) ∙ length_is n h

-- the body's length is read
pub answer_length_is : (authority token : List ℕ) (order : ℕ) (outcome : Outcome) → length (answer_text outcome) ≤ 16384
    → body_length (map name_and_value (fields_of authority token (answer order outcome))) ≡ Ok (length (answer_text outcome))
answer_length_is authority token order outcome h = size_is (length (answer_text outcome)) h

pub body_length_is : (authority token key : List ℕ) (c : HallCommand) → length (request_text key c) ≤ 16384
    → body_length (map name_and_value (fields_of authority token (command key c))) ≡ Ok (length (request_text key c))
body_length_is authority token key c h = size_is (length (request_text key c)) h

-- ---- the bearer token

bearer_digest_is : (token : List ℕ) → IsBearerToken token → bearer_digest (codes "Bearer " ++ token) ≡ Some (sha256 token)
bearer_digest_is token h = rw (le-leb 7 (length (codes "Bearer " ++ token)) (omega arith), h) refl

-- the digest of the token is found
pub bearer_is : (authority token : List ℕ) (question : Question) → IsBearerToken token
    → bearer (map name_and_value (fields_of authority token question)) ≡ Some (sha256 token)
bearer_is authority token question h =
    let parts = visible_text 128 token h in
    ap bearer_digest (trims 66 (codes "earer ") token refl parts.some parts.visible) ∙ bearer_digest_is token h
