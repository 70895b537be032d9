-- Why the desk refuses (HTTP statuses: RFC 9110 section 15; 423 is of RFC 4918 section 11.3).
use Rattle.std.specs.Prelude.{ℕ, List, [], ◌∷◌, Option, codes}
use Rattle.hall_types.specs.{Kinds.with_text, declared.refusal.Refusal.{Refusal, TheVariants.{BadRequest, NoRoute, WrongMethod, NeedLength, TooLarge, UnknownToken, KeyReused, RoleNeeded, NoMachine, NoInterface, NoPool, NoImage, NoOperator, NotOwner, NotMember, StaleVersion, Locked, WrongStatus, Taken, NoLiveImage, WrongArch, InUse, LastInterface, SelfDisable, Full, Exhausted, NoBoot, NoOrder, Spent, Stale, Withdrawn, WrongStage, Unavailable}}}

-- a refusal's number, its name in answers, and their HTTP status
pub record RefusalRow : Type 0 where
  pub number : ℕ
  pub name : List ℕ
  pub status : ℕ

abbrev row : ℕ → List ℕ → ℕ → RefusalRow
row number name status = record { number = number; name = name; status = status }

unfoldable pub refusal_row : Refusal → RefusalRow
refusal_row BadRequest = row 1 (codes "BadRequest") 400
refusal_row NoRoute = row 2 (codes "NoRoute") 404
refusal_row WrongMethod = row 3 (codes "WrongMethod") 405
refusal_row NeedLength = row 4 (codes "NeedLength") 411
refusal_row TooLarge = row 5 (codes "TooLarge") 413
refusal_row UnknownToken = row 6 (codes "UnknownToken") 401
refusal_row KeyReused = row 7 (codes "KeyReused") 409
refusal_row RoleNeeded = row 8 (codes "RoleNeeded") 403
refusal_row NoMachine = row 9 (codes "NoMachine") 404
refusal_row NoInterface = row 10 (codes "NoInterface") 404
refusal_row NoPool = row 11 (codes "NoPool") 404
refusal_row NoImage = row 12 (codes "NoImage") 404
refusal_row NoOperator = row 13 (codes "NoOperator") 404
refusal_row NotOwner = row 14 (codes "NotOwner") 403
refusal_row NotMember = row 15 (codes "NotMember") 403
refusal_row StaleVersion = row 16 (codes "StaleVersion") 412
refusal_row Locked = row 17 (codes "Locked") 423
refusal_row WrongStatus = row 18 (codes "WrongStatus") 409
refusal_row Taken = row 19 (codes "Taken") 409
refusal_row NoLiveImage = row 20 (codes "NoLiveImage") 409
refusal_row WrongArch = row 21 (codes "WrongArch") 409
refusal_row InUse = row 22 (codes "InUse") 409
refusal_row LastInterface = row 23 (codes "LastInterface") 409
refusal_row SelfDisable = row 24 (codes "SelfDisable") 409
refusal_row Full = row 25 (codes "Full") 409
refusal_row Exhausted = row 26 (codes "Exhausted") 409
refusal_row NoBoot = row 27 (codes "NoBoot") 404
refusal_row NoOrder = row 28 (codes "NoOrder") 404
refusal_row Spent = row 29 (codes "Spent") 409
refusal_row Stale = row 30 (codes "Stale") 410
refusal_row Withdrawn = row 31 (codes "Withdrawn") 410
refusal_row WrongStage = row 32 (codes "WrongStage") 409
refusal_row Unavailable = row 33 (codes "Unavailable") 503

abbrev pub refusal_number : Refusal → ℕ
refusal_number refusal = (refusal_row refusal).number

abbrev pub refusal_name : Refusal → List ℕ
refusal_name refusal = (refusal_row refusal).name

abbrev pub refusal_status : Refusal → ℕ
refusal_status refusal = (refusal_row refusal).status

-- the refusals, in the order of their numbers
abbrev pub refusals : List Refusal
refusals =
    BadRequest ∷ NoRoute ∷ WrongMethod ∷ NeedLength ∷ TooLarge ∷ UnknownToken ∷ KeyReused ∷ RoleNeeded ∷ NoMachine
    ∷ NoInterface ∷ NoPool ∷ NoImage ∷ NoOperator ∷ NotOwner ∷ NotMember ∷ StaleVersion ∷ Locked ∷ WrongStatus ∷ Taken
    ∷ NoLiveImage ∷ WrongArch ∷ InUse ∷ LastInterface ∷ SelfDisable ∷ Full ∷ Exhausted ∷ NoBoot ∷ NoOrder ∷ Spent ∷ Stale
    ∷ Withdrawn ∷ WrongStage ∷ Unavailable ∷ []

-- the refusal with this name
abbrev pub refusal_of_text : List ℕ → Option Refusal
refusal_of_text name = with_text refusal_name name refusals
