-- Steps that may find nothing.
use Rattle.std.specs.Prelude.{Option, Some, None}

-- the next step, where this one found something
infixl 10 ◌>>=◌
abbrev pub ◌>>=◌ : {A B : Type 0} → Option A → (A → Option B) → Option B
Some x >>= f = f x
None >>= f = None
