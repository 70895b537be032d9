-- The program `understood` finds the addresses and the octets in an input.
use Rattle.std.{proofs.{Common.{◌≡◌, ℕ, ◌≤◌, ◌<◌, ◌+◌, ◌==◌, true, false, List, [], ◌∷◌, ◌++◌, length, map, drop, drop-cons, get_or, add-one, Bor, Option, Some, None, Result, Ok, Err, refl, sym, ap, subst, ◌∙◌, arith, inl, inr}, lemmas.{Bool.{cases_eq, eq-eqb, ne_eqb, Decides.nat_tests}, List.{append-nil, append_assoc, nil_from_length, drop_all, Elements.All-weaker, Splits.{join_with_byte-slice_split, slice_split_at, slice_split_none}}, Option.same_Some}}, specs.{Prelude.{option_map, All}, List.join_with_byte, Result.result_ok}}
use Rattle.hex.proofs.HexLemmas.{decode_of-ok}
use Rattle.desk_operations.specs.{Prelude.{decode_of, is_hex_digit, FromHexError, IsMacText, mac_of, mac_of-from_IsMacText, IsMacText-from_mac_of, IsMacText-high, length-IsMacText}, FrameInput.{IsHexLine, ended, open_ended, IsInput, frame, address, Understood, lines_of, only_line, hex_octets, framed, listed, listed_then, understood_lines, understood}}

-- ---- characters that are no line feed

hex_no_feed : (c : ℕ) → is_hex_digit c ≡ true → (c == 10) ≡ false
hex_no_feed c h = grind (arith, nat_tests)

high_no_feed : (c : ℕ) → 48 ≤ c → (c == 10) ≡ false
high_no_feed c h = ne_eqb c 10 (λ e. omega arith)

digits_no_feed : (digits octets : List ℕ) → decode_of digits ≡ Ok octets → All (λ c. (c == 10) ≡ false) digits
digits_no_feed digits octets e = All-weaker (λ (c : ℕ). is_hex_digit c ≡ true) (λ (c : ℕ). (c == 10) ≡ false) hex_no_feed digits (decode_of-ok digits octets e).1

mac_no_feed : (text octets : List ℕ) → IsMacText text octets → All (λ c. (c == 10) ≡ false) text
mac_no_feed text octets is = All-weaker (λ (c : ℕ). 48 ≤ c) (λ (c : ℕ). (c == 10) ≡ false) high_no_feed text (IsMacText-high text octets is)

lines_of-line : (line rest : List ℕ) → All (λ c. (c == 10) ≡ false) line → lines_of (line ++ 10 ∷ rest) ≡ line ∷ lines_of rest
unfolding lines_of
lines_of-line line rest h = slice_split_at (λ c. c == 10) line 10 rest h refl

lines_of-last : (line : List ℕ) → All (λ c. (c == 10) ≡ false) line → lines_of line ≡ line ∷ []
unfolding lines_of
lines_of-last line h = slice_split_none (λ c. c == 10) line h

-- ---- one line of hexadecimal

only_line-open : (line : List ℕ) → (length line ≡ 0 → ⊥) → only_line (line ∷ []) ≡ Some line
unfolding only_line
only_line-open line h = rw (ne_eqb (length line) 0 h) refl

only_line-nothing : (line : List ℕ) → length line ≡ 0 → only_line (line ∷ []) ≡ None
unfolding only_line
only_line-nothing line h = rw (eq-eqb (length line) 0 h) refl

only_line-ended : (line after : List ℕ) → length after ≡ 0 → only_line (line ∷ after ∷ []) ≡ Some line
unfolding only_line
only_line-ended line after h = rw (eq-eqb (length after) 0 h) refl

only_line-more : (line after : List ℕ) → (length after ≡ 0 → ⊥) → only_line (line ∷ after ∷ []) ≡ None
unfolding only_line
only_line-more line after h = rw (ne_eqb (length after) 0 h) refl

decoded : (r : Result (List ℕ) FromHexError) (octets : List ℕ) → result_ok r ≡ Some octets → r ≡ Ok octets
decoded (Ok found) octets e = ap (λ (xs : List ℕ). Ok xs) (same_Some found octets e)
decoded (Err fault) octets e = absurd cc

-- the octets of the line that was found
hex_octets-line : (lines : List (List ℕ)) (line octets : List ℕ) → only_line lines ≡ Some line → hex_octets lines ≡ Some octets → decode_of line ≡ Ok octets
hex_octets-line lines line octets is e = decoded (decode_of line) octets (rw is at e)

hex_octets-none : (lines : List (List ℕ)) (octets : List ℕ) → only_line lines ≡ None → hex_octets lines ≡ Some octets → ⊥
hex_octets-none lines octets is e = let gone = rw is at e in cc

IsHexLine-from_lines : (lines : List (List ℕ)) (octets : List ℕ) → hex_octets lines ≡ Some octets → IsHexLine (join_with_byte 10 lines) octets
unfolding only_line
IsHexLine-from_lines [] octets e = absurd cc
IsHexLine-from_lines (line ∷ []) octets e =
    elim (cases_eq (length line) 0) [
      | inl none ↦ absurd (hex_octets-none (line ∷ []) octets (only_line-nothing line none) e)
      | inr some ↦ open_ended line octets (λ empty. some (ap length empty)) (hex_octets-line (line ∷ []) line octets (only_line-open line some) e)
    ]
IsHexLine-from_lines (line ∷ after ∷ []) octets e =
    elim (cases_eq (length after) 0) [
      | inl none ↦
          let is = hex_octets-line (line ∷ after ∷ []) line octets (only_line-ended line after none) e in
          ended (line ++ 10 ∷ after) line octets (ap (λ (xs : List ℕ). line ++ 10 ∷ xs) (nil_from_length after none)) is
      | inr some ↦ absurd (hex_octets-none (line ∷ after ∷ []) octets (only_line-more line after some) e)
    ]
IsHexLine-from_lines (line ∷ after ∷ more ∷ lines) octets e = absurd cc

hex_octets-at : (lines : List (List ℕ)) (line octets : List ℕ) → only_line lines ≡ Some line → decode_of line ≡ Ok octets → hex_octets lines ≡ Some octets
hex_octets-at lines line octets is e = rw (is, e) refl

hex_octets-from_IsHexLine : {line octets : List ℕ} → IsHexLine line octets → hex_octets (lines_of line) ≡ Some octets
unfolding lines_of
hex_octets-from_IsHexLine (ended line digits octets is e) =
    ap (λ (text : List ℕ). hex_octets (lines_of text)) is
    ∙ hex_octets-at (lines_of (digits ++ 10 ∷ [])) digits octets (ap only_line (lines_of-line digits [] (digits_no_feed digits octets e)) ∙ only_line-ended digits [] refl) e
hex_octets-from_IsHexLine (open_ended line octets some e) =
    hex_octets-at (lines_of line) line octets (ap only_line (lines_of-last line (digits_no_feed line octets e)) ∙ only_line-open line (λ none. some (nil_from_length line none))) e

-- ---- the lines of an input

understood_lines-frame : (line : List ℕ) (lines : List (List ℕ)) → length line ≡ 0 → understood_lines (line ∷ lines) ≡ option_map framed (hex_octets lines)
unfolding understood_lines
understood_lines-frame line lines h = rw (eq-eqb (length line) 0 h) refl

understood_lines-listed : (line : List ℕ) (lines : List (List ℕ)) → (length line ≡ 0 → ⊥) → understood_lines (line ∷ lines) ≡ listed_then (mac_of line) (understood_lines lines)
unfolding understood_lines
understood_lines-listed line lines h = rw (ne_eqb (length line) 0 h) refl

understood_lines-no_mac : (line : List ℕ) (lines : List (List ℕ)) → (length line ≡ 0 → ⊥) → mac_of line ≡ None → understood_lines (line ∷ lines) ≡ None
understood_lines-no_mac line lines h e = understood_lines-listed line lines h ∙ rw e refl

understood_lines-address : (line mac : List ℕ) (lines : List (List ℕ)) → (length line ≡ 0 → ⊥) → mac_of line ≡ Some mac → understood_lines (line ∷ lines) ≡ option_map (listed mac) (understood_lines lines)
understood_lines-address line mac lines h e = understood_lines-listed line lines h ∙ rw e refl

listed_then-none : (mac : Option (List ℕ)) → listed_then mac None ≡ None
listed_then-none None = refl
listed_then-none (Some first) = refl

understood_lines-last : (line : List ℕ) → understood_lines (line ∷ []) ≡ None
unfolding understood_lines only_line
understood_lines-last line =
    elim (cases_eq (length line) 0) [
      | inl none ↦ understood_lines-frame line [] none
      | inr some ↦ understood_lines-listed line [] some ∙ listed_then-none (mac_of line)
    ]

-- ---- the relation and the program

framed-some : (found : Option (List ℕ)) (u : Understood) → option_map framed found ≡ Some u → (octets : List ℕ) × (found ≡ Some octets) × (framed octets ≡ u)
framed-some None u e = absurd cc
framed-some (Some octets) u e = (octets, refl, same_Some _ _ e)

listed-some : (mac : Option (List ℕ)) (after : Option Understood) (u : Understood) → listed_then mac after ≡ Some u → (first : List ℕ) × (v : Understood) × (mac ≡ Some first) × (after ≡ Some v) × (listed first v ≡ u)
listed-some (Some first) (Some v) u e = (first, v, refl, refl, same_Some _ _ e)
listed-some mac after u e = absurd cc

-- the input has these addresses and these octets
abbrev Has : List ℕ → Understood → Type 0
Has input u = IsInput input u.addresses u.octets

Has-from_lines : (lines : List (List ℕ)) (u : Understood) → understood_lines lines ≡ Some u → Has (join_with_byte 10 lines) u
unfolding understood_lines
Has-from_lines [] u e = absurd cc
Has-from_lines (line ∷ []) u e = absurd (let gone = sym (understood_lines-last line) ∙ e in cc)
Has-from_lines (line ∷ next ∷ lines) u e =
    let rest = join_with_byte 10 (next ∷ lines) in
    elim (cases_eq (length line) 0) [
      | inl none ↦
          let (octets, found, same) = framed-some _ u (sym (understood_lines-frame line (next ∷ lines) none) ∙ e) in
          let empty = nil_from_length line none in
          subst (λ (w : Understood). Has (line ++ 10 ∷ rest) w) same
          (frame (line ++ 10 ∷ rest) rest octets (ap (λ (xs : List ℕ). xs ++ 10 ∷ rest) empty) (IsHexLine-from_lines (next ∷ lines) octets found))
      | inr some ↦
          let (first, v, mac, after, same) = listed-some _ _ u (sym (understood_lines-listed line (next ∷ lines) some) ∙ e) in
          subst (λ (w : Understood). Has (line ++ 10 ∷ rest) w) same
          (address (line ++ 10 ∷ rest) line rest v.octets first v.addresses refl (IsMacText-from_mac_of line first mac) (Has-from_lines (next ∷ lines) v after))
    ]

pub IsInput-from_understood : (input : List ℕ) (u : Understood) → understood input ≡ Some u → IsInput input u.addresses u.octets
unfolding understood lines_of
IsInput-from_understood input u e =
    subst (λ (text : List ℕ). Has text u) (join_with_byte-slice_split 10 input) (Has-from_lines (lines_of input) u e)

mac_some : (text mac : List ℕ) → IsMacText text mac → length text ≡ 0 → ⊥
mac_some text mac is none = omega (arith, length-IsMacText text mac is, none)

pub understood-from_IsInput : {input : List ℕ} {macs : List (List ℕ)} {octets : List ℕ} → IsInput input macs octets → understood input ≡ Some (record { addresses = macs; octets = octets })
unfolding understood lines_of
understood-from_IsInput (frame input line octets is hex) =
    ap (λ (text : List ℕ). understood text) is
    ∙ understood_lines-frame [] (lines_of line) refl
    ∙ ap (λ (found : Option (List ℕ)). option_map framed found) (hex_octets-from_IsHexLine hex)
understood-from_IsInput (address input text rest octets mac macs is mac_is others) =
    ap (λ (xs : List ℕ). understood xs) is
    ∙ ap understood_lines (lines_of-line text rest (mac_no_feed text mac mac_is))
    ∙ understood_lines-address text mac (lines_of rest) (mac_some text mac mac_is) (mac_of-from_IsMacText text mac mac_is)
    ∙ ap (λ (after : Option Understood). option_map (listed mac) after) (understood-from_IsInput others)

pub IsInput-one : (input : List ℕ) (u v : Understood) → IsInput input u.addresses u.octets → IsInput input v.addresses v.octets → u ≡ v
IsInput-one input u v first second = same_Some u v (sym (understood-from_IsInput first) ∙ understood-from_IsInput second)

-- ---- from one line to the next

-- the addresses so far, before those of what is left
abbrev pub with_addresses : List (List ℕ) → Option Understood → Option Understood
with_addresses macs left = option_map (λ (u : Understood). record u { addresses = macs ++ u.addresses }) left

with_addresses-nothing : (left : Option Understood) → left ≡ with_addresses [] left
with_addresses-nothing None = refl
with_addresses-nothing (Some u) = refl

with_addresses-listed : (macs : List (List ℕ)) (mac : List ℕ) (left : Option Understood) → with_addresses (macs ++ mac ∷ []) left ≡ with_addresses macs (option_map (listed mac) left)
with_addresses-listed macs mac None = refl
with_addresses-listed macs mac (Some u) = ap (λ (xs : List (List ℕ)). Some (record u { addresses = xs })) (append_assoc macs (mac ∷ []) u.addresses)

-- what is found in lines from one on, where the addresses before it are known
abbrev pub Finds : List (List ℕ) → List (Bor (List ℕ)) → ℕ → Type 0
Finds macs lines at = with_addresses macs (understood_lines (map (λ line. line.now) (drop at lines))) ≡ understood_lines (map (λ line. line.now) lines)

pub understood-start : (lines : List (Bor (List ℕ))) → Finds [] lines 0
understood-start lines = sym (with_addresses-nothing _)

pub understood-none : (macs : List (List ℕ)) (lines : List (Bor (List ℕ))) (at : ℕ) → Finds macs lines at → length lines ≤ at → understood_lines (map (λ line. line.now) lines) ≡ None
unfolding understood_lines
understood-none macs lines at so_far past =
    sym so_far ∙ ap (λ (left : List (Bor (List ℕ))). with_addresses macs (understood_lines (map (λ line. line.now) left))) (drop_all at lines past)

module _ (macs : List (List ℕ)) (lines : List (Bor (List ℕ))) (at : ℕ) (d : Bor (List ℕ)) (so_far : Finds macs lines at) (inside : at < length lines) where
  abbrev line : List ℕ
  line = (get_or lines at d).now

  abbrev rest : List (List ℕ)
  rest = map (λ line. line.now) (drop (at + 1) lines)

  -- what the next line and those after it give
  next_line : (given : Option Understood) → understood_lines (line ∷ rest) ≡ given → understood_lines (map (λ line. line.now) lines) ≡ with_addresses macs given
  next_line given e =
      let here : drop at lines ≡ get_or lines at d ∷ drop (at + 1) lines = drop-cons lines at d inside ∙ ap (λ n. get_or lines at d ∷ drop n lines) (sym (add-one at)) in
      sym so_far ∙ ap (λ (left : List (Bor (List ℕ))). with_addresses macs (understood_lines (map (λ line. line.now) left))) here ∙ ap (with_addresses macs) e

  pub understood-no_octets : length line ≡ 0 → hex_octets rest ≡ None → understood_lines (map (λ line. line.now) lines) ≡ None
  understood-no_octets none e = next_line None (understood_lines-frame line rest none ∙ ap (option_map framed) e)

  pub understood-frame : (octets : List ℕ) → length line ≡ 0 → hex_octets rest ≡ Some octets
      → understood_lines (map (λ line. line.now) lines) ≡ Some (record { addresses = macs; octets = octets })
  understood-frame octets none e =
      next_line (Some (framed octets)) (understood_lines-frame line rest none ∙ ap (option_map framed) e)
      ∙ ap (λ (xs : List (List ℕ)). Some (record { addresses = xs; octets = octets })) (append-nil macs)

  pub understood-no_mac : (length line ≡ 0 → ⊥) → mac_of line ≡ None → understood_lines (map (λ line. line.now) lines) ≡ None
  understood-no_mac some e = next_line None (understood_lines-no_mac line rest some e)

  pub understood-address : (mac : List ℕ) → (length line ≡ 0 → ⊥) → mac_of line ≡ Some mac → Finds (macs ++ mac ∷ []) lines (at + 1)
  understood-address mac some e =
      with_addresses-listed macs mac (understood_lines rest) ∙ sym (next_line (option_map (listed mac) (understood_lines rest)) (understood_lines-address line mac rest some e))

pub ruleset parse_steps = (understood-start, understood-none, understood-no_octets, understood-frame, understood-no_mac, understood-address)
