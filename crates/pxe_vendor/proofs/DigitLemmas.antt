-- The octet that hex reads in two digits.
use Rattle.std.{proofs.{Common.{◌≡◌, ℕ, ◌+◌, ◌*◌, List, [], ◌∷◌, slice_index, Option, Some, None, refl, sym, ap, ◌∙◌}, lemmas.Option.same_Some}, specs.{Prelude.{option_map, option_and_then, Ok}, Result.result_ok}}
use Rattle.hex.specs.Hex.{digit_or_error, decode_pairs, decode_sized, hex_digit_value, ◌>>=◌}
use Rattle.pxe_vendor.specs.MacText.{octet_of}

decoded_pair : (high low : ℕ) (h l : Option ℕ) → result_ok (((digit_or_error high 0 h) >>= (λ a. (digit_or_error low 1 l) >>= (λ b. Ok (a * 16 + b)))) >>= (λ octet. Ok (octet ∷ []))) ≡ option_map (λ octet. octet ∷ []) (option_and_then (λ a. option_map (λ b. a * 16 + b) l) h)
decoded_pair high low None l = refl
decoded_pair high low (Some h) None = refl
decoded_pair high low (Some h) (Some l) = refl

decoded-octet_of : (high low : ℕ) → result_ok (decode_sized (high ∷ low ∷ []) 1) ≡ option_map (λ octet. octet ∷ []) (octet_of high low)
unfolding decode_pairs
decoded-octet_of high low = decoded_pair high low (hex_digit_value high) (hex_digit_value low)

mapped-none : (o : Option ℕ) → option_map (λ octet. octet ∷ []) o ≡ None → o ≡ None
mapped-none None e = refl
mapped-none (Some octet) e = absurd cc

mapped-some : (o : Option ℕ) (octets : List ℕ) → option_map (λ octet. octet ∷ []) o ≡ Some octets → o ≡ Some (slice_index octets 0)
mapped-some None octets e = absurd cc
mapped-some (Some octet) octets e = ap (λ (xs : List ℕ). Some (slice_index xs 0)) (same_Some _ _ e)

pub octet_of-none : (high low : ℕ) (read : Option (List ℕ)) → read ≡ result_ok (decode_sized (high ∷ low ∷ []) 1) → read ≡ None → octet_of high low ≡ None
octet_of-none high low read is none = mapped-none (octet_of high low) (sym (decoded-octet_of high low) ∙ sym is ∙ none)

pub octet_of-some : (high low : ℕ) (octets : List ℕ) (read : Option (List ℕ)) → read ≡ result_ok (decode_sized (high ∷ low ∷ []) 1) → read ≡ Some octets → octet_of high low ≡ Some (slice_index octets 0)
octet_of-some high low octets read is some = mapped-some (octet_of high low) octets (sym (decoded-octet_of high low) ∙ sym is ∙ some)

pub ruleset octet_steps = (octet_of-none, octet_of-some)
