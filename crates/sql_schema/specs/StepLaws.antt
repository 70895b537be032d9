-- Laws of steps inside a transaction, for the proofs of callers: what follows from a step, and one step after another.
use Rattle.sql_schema.specs.{Words.{Row, State, KeepsCommit, Hall, IsWithin, HallRows, HasCleanDisk, Survives, earlier, Error, Shown, FailsToQuery, IsTooLate, query_keeps, query_mode}, Steps.{IsStep, IsWritten}, Writing.Makes}
use Rattle.std.proofs.Common.{◌≡◌, ℕ, List, true, Ok, Err, Result, IfOk, OnOk, IsTrue, refl, ◌∙◌, IfErr, ◌⊎◌}

-- of any answer there holds what holds if there is one
pub of_any : {X E : Type 0} (A : Type 0) (r : Result X E) → OnOk r A → IfOk r (λ _. A)
of_any A (Ok x) a = a
of_any A (Err e) a = tt

-- what follows from what a step gives
pub gives : {Y E : Type 0} {old new : State} {A : Y → Type 0} (B : Y → Type 0) (r : Result Y E) → IsStep old new r A → ((y : Y) → A y → B y) → IsStep old new r B
gives B (Ok y) s follows = record { gives = follows y s.gives; mode = s.mode; kept = s.kept }
gives B (Err e) s follows = record { gives = tt; mode = tt; kept = s.kept }

keeps : {old mid new : State} → (IsTrue old.in_transaction → KeepsCommit old mid) → (IsTrue old.in_transaction → mid.in_transaction ≡ true) → (IsTrue mid.in_transaction → KeepsCommit mid new)
    → IsTrue old.in_transaction → KeepsCommit old new
keeps first mode second inside =
    let before = first inside in
    let after = second (mode inside) in
    record { was_open = λ live. before.was_open (after.was_open live); committed = λ live. after.committed live ∙ before.committed (after.was_open live) }

-- a step that answers, and then another one
pub next : {Y Z E F : Type 0} {old mid new : State} {A : Y → Type 0} {B : Z → Type 0} (D : Z → Type 0) (y : Y) (r : Result Z F) → IsStep old mid {E = E} (Ok y) A → IsStep mid new r B
    → ((z : Z) → A y → B z → D z) → IsStep old new r D
next D y (Ok z) first second follows = record { gives = follows z first.gives second.gives; mode = λ inside. second.mode (first.mode inside); kept = keeps first.kept first.mode second.kept }
next D y (Err e) first second follows = record { gives = tt; mode = tt; kept = keeps first.kept first.mode second.kept }

-- a step that answers and the one after it give what each of them gives
pub then : {Y Z E F : Type 0} {old mid new : State} {A : Y → Type 0} {B : Z → Type 0} {y : Y} {r : Result Z F} → (HasCleanDisk mid → IsStep old mid {E = E} (Ok y) A) → Survives mid new (λ _. ⊥) → (HasCleanDisk new → IsStep mid new r B)
    → HasCleanDisk new → IsStep old new r (λ z. A y × B z)
then {y = y} {r = r} one survives other clean = next _ y r (one (earlier survives clean)) (other clean) (λ z a b. (a, b))

-- a step that answers, whose answer is read as another one
pub reads_on : {Y Z E F : Type 0} {old new : State} {A : Y → Type 0} (D : Z → Type 0) (y : Y) (r : Result Z F) → IsStep old new {E = E} (Ok y) A → (A y → IfOk r D) → IsStep old new r D
reads_on D y (Ok z) step follows = record { gives = follows step.gives; mode = step.mode; kept = step.kept }
reads_on D y (Err e) step follows = record { gives = tt; mode = tt; kept = step.kept }

-- a step that fails, whatever it was to give
pub fails : {Y Z E F : Type 0} {old new : State} {A : Y → Type 0} (B : Z → Type 0) (e : E) (f : F) → IsStep old new {Y = Y} (Err e) A → IsStep old new {Y = Z} (Err f) B
fails B e f s = record { gives = tt; mode = tt; kept = s.kept }

-- a statement that shows rows is a step, and so is one that is refused, whatever it was to give
pub queried : {X : Type 0} (sql : List ℕ) (params : Row) (old new : State) (rows_of : X → List Row) (r : Result X Error) → IfOk r (λ x. Shown sql params old new (rows_of x))
    → IfErr r (λ e. FailsToQuery sql params old new e ⊎ IsTooLate sql params old new e) → IsStep old new r (λ x. Shown sql params old new (rows_of x))
queried sql params old new rows_of (Ok x) ok err = record { gives = ok; mode = query_mode old new sql params (rows_of x) ok; kept = query_keeps old new sql params rows_of (Ok x) ok err }
queried sql params old new rows_of (Err e) ok err = record { gives = tt; mode = tt; kept = query_keeps old new sql params rows_of (Err e) ok err }

pub refuses : {Y : Type 0} (sql : List ℕ) (params : Row) (old new : State) (A : Y → Type 0) (e : Error) → FailsToQuery sql params old new e ⊎ IsTooLate sql params old new e → IsStep old new {Y = Y} (Err e) A
refuses sql params old new A e refused = fails A e e (queried {X = List Row} sql params old new (λ rows. rows) (Err e) tt refused)

-- no step at all
pub stays : {Y E : Type 0} (s : State) (B : Y → Type 0) (r : Result Y E) → IfOk r B → IsStep s s r B
stays s B (Ok y) b = record { gives = b; mode = λ inside. inside; kept = λ inside. record { was_open = λ live. live; committed = λ live. refl } }
stays s B (Err e) b = record { gives = tt; mode = tt; kept = λ inside. record { was_open = λ live. live; committed = λ live. refl } }

-- a statement that is known to make other rows of those that there are, where it may
pub writes : {C : Type 0} (shows : C → State) {Y E : Type 0} {old new : State} (may : HallRows → Type 0) (makes : HallRows → HallRows) (sql : List ℕ) (params : Row) (r : Result Y E)
    → IsStep old new r (λ _. (before : Hall) (was now : HallRows) → Makes shows sql params before was now → IsWithin old before was → IsWithin new before now)
    → ((before : Hall) (c : HallRows) → may c → Makes shows sql params before c (makes c)) → IsWritten old new r may makes
writes shows may makes sql params r s known = gives _ r s (λ y step before c held it. step before c (makes c) (known before c it) held)
