-- What becomes of a hall when its desk has sent an answer.
use Rattle.std.specs.Prelude.{◌≢◌, ◌⊎◌, ℕ, List, Ok, Err, None}
use Rattle.hallctl_requests.specs.{Response.IsReading, declared.response.ResponseFault.{ResponseFault}}
use Rattle.hallview_state.specs.{Taken.{IsTaken, Stays}, declared.hall.Hall.{Hall}}

-- what the desk sent is read as a status and a body, which the hall takes; or as no answer, and all that is known of the hall stays
abbrev pub HasTaken : Hall → Hall → List ℕ → ℕ → ℕ → Type 0
HasTaken old new octets now took =
    ((status : ℕ) × (body : List ℕ) × IsReading octets (Ok (status, body)) × IsTaken old new status body now took)
    ⊎ ((fault : ResponseFault) × IsReading octets (Err fault) × Stays old new × (new.loss ≢ None))
