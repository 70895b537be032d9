-- How the serving of a request ends a run, of a store that was settled.
use Rattle.std.{proofs.Common.{◌≡◌, ◌⊎◌, ℕ, List, Option, Some, Result, Err, ap, inl, inr, sym}, specs.Prelude.IfSome}
use Rattle.desk_operations.specs.{Prelude.{Site, Served, ReadFailed, WriteFailed, Fault, Io, Ghosts, IsSettled, Item, Origin, StaysSettled}, Request.{HasSettled, outcome_of}}

pub ended_settled : {S : Type 0} (g : Ghosts S) (old new : S) (site : Site) (moment : ℕ) (fresh : List ℕ) (octets before : Option (List ℕ)) (served : Served)
    (r : Result (Unit {0}) Fault) (after : Option (List ℕ)) → r ≡ outcome_of served
    → IfSome octets (λ octets. IfSome before (λ before. (origin : Origin) (past : List Item) → IsSettled g old origin past
    → StaysSettled g new origin past site moment fresh octets before served after))
    → IfSome octets (λ octets. IfSome before (λ before. (origin : Origin) (past : List Item) → IsSettled g old origin past
    → HasSettled g new origin past site moment fresh octets before r after))
ended_settled g old new site moment fresh (Some octets) (Some before) served r after ended it =
    λ origin past was. record { served = served; ended = ended; is = it origin past was }
ended_settled g old new site moment fresh octets before served r after ended it = tt

-- a read or a write that failed
pub failed_ends : (served : Served) → (served ≡ ReadFailed) ⊎ ((n : ℕ) × (served ≡ WriteFailed n)) → Err Io ≡ outcome_of served
failed_ends served (inl is) = ap outcome_of (sym is)
failed_ends served (inr is) = ap outcome_of (sym is.1)
