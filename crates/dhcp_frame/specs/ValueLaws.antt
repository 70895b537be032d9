-- Laws of joined values: they can be joined one by one (RFC 3396 section 5).
use Rattle.std.{proofs.Common.{◌≡◌, ℕ, List, [], ◌++◌, Option, Some, None, refl, ap, append_assoc, append-nil}, specs.Prelude.unwrap_or}

-- the values joined so far, and then the joined values of the rest
unfoldable pub joined_then : Option (List ℕ) → Option (List ℕ) → Option (List ℕ)
joined_then None rest = rest
joined_then (Some octets) rest = Some (octets ++ unwrap_or rest [])

pub joined_then-absent : (rest : Option (List ℕ)) → joined_then None rest ≡ rest
unfolding joined_then
joined_then-absent rest = refl

pub joined_then-nothing : (joined : Option (List ℕ)) → joined_then joined None ≡ joined
unfolding joined_then
joined_then-nothing None = refl
joined_then-nothing (Some octets) = ap (λ (x : List ℕ). Some x) (append-nil octets)

pub joined_then-more : (joined : Option (List ℕ)) (value : List ℕ) (rest : Option (List ℕ)) → joined_then (Some (unwrap_or joined [] ++ value)) rest ≡ joined_then joined (Some (value ++ unwrap_or rest []))
unfolding joined_then
joined_then-more None value rest = refl
joined_then-more (Some octets) value rest = ap (λ (x : List ℕ). Some x) (append_assoc octets value (unwrap_or rest []))
