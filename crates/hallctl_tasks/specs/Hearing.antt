-- What is heard of the desk.
use Rattle.std.specs.Prelude.{ℕ, List}

-- the status and the body of a whole answer
pub record Hearing : Type 0 where
  pub status : ℕ
  pub body : List ℕ
