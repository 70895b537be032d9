-- Tries to have the desk's answer.
use Rattle.std.specs.Prelude.{ℕ, List, [], ◌∷◌, ◌++◌, Option, None, Some}
use Rattle.hallctl_tasks.specs.declared.dial.{Attempt.{Attempt, TheVariants.{Answer, TooLong, Nothing, Unsent}}, Why.Why}

-- what came back, where there was a connection
pub data Came : Type 0 where
  Octets : List ℕ → Came
  Endless : Came
  Silence : Why → Came
  NoConnection : Why → Came

abbrev pub came_of : Attempt → Came
came_of (Answer octets) = Octets octets.items
came_of TooLong = Endless
came_of (Nothing why) = Silence why
came_of (Unsent why) = NoConnection why

-- a try: the octets that were sent, and what came back
pub record Try : Type 0 where
  pub sent : List ℕ
  pub came : Came

-- the tries with one more, where they are known
abbrev pub adds : Option (List Try) → Try → Option (List Try)
adds None one = None
adds (Some tries) one = Some (tries ++ one ∷ [])
