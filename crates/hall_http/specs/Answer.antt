-- Results that are exact, want of memory aside.
use Rattle.std.specs.Prelude.{◌≡◌, ◌≢◌, Result, Ok, Err}
use Rattle.hall_http.specs.declared.fault.HttpFault.{HttpFault, TheVariants.Memory}

-- the result is the stated one, or its fault is want of memory
abbrev pub Answers : {T : Type 0} → Result T HttpFault → Result T HttpFault → Type 0
Answers (Ok value) stated = stated ≡ Ok value
Answers (Err fault) stated = fault ≢ Memory → stated ≡ Err fault

-- the next step, where this one found no fault
infixl 10 ◌>>=◌
abbrev pub ◌>>=◌ : {A B : Type 0} → Result A HttpFault → (A → Result B HttpFault) → Result B HttpFault
Ok x >>= f = f x
Err e >>= f = Err e
