-- Octets that are pushed in three parts.
use Rattle.std.proofs.{Common.{◌≡◌, ℕ, List, ◌++◌, append_assoc, arith}, lemmas.Bool.Decides.nat_tests}
use Rattle.hall_http.specs.{Prelude.IsStatusCode, Response.IsStatus}

pub in_three : (old a b c one two three : List ℕ) → one ≡ old ++ a → two ≡ one ++ b → three ≡ two ++ c → three ≡ old ++ (a ++ b ++ c)
in_three old a b c one two three p q r = rw (r, q, p) (simp append_assoc)

-- each status of a response has three digits
pub status_is_code : (status : ℕ) → IsStatus status → IsStatusCode status
status_is_code status is = grind (arith, nat_tests, is)
