-- Which octets a token takes, of a block that a source of random octets gave.
use Rattle.std.specs.Prelude.{◌≡◌, ◌≤◌, ◌<◌, ◌++◌, ◌⊎◌, ℕ, List, [], length}

-- A token takes the next 16 octets that are left of a block. Where fewer are left, one call of the source gives a new block, and the token
-- takes its first 16; `gives` says which octets a call gives, between which states of the source.
pub record TakesNext {R : Type 0} (gives : R → List ℕ → R → Type 0) (left : List ℕ) (source : R) (token left' : List ℕ) (source' : R) : Type 0 where
  pub size : length token ≡ 16
  pub next : 16 ≤ length left → left ≡ token ++ left'
  pub still : 16 ≤ length left → source' ≡ source
  pub filled : length left < 16 → gives source (token ++ left') source'

-- no token was given: what was left of a block stays, or is dropped
abbrev pub TakesNone : List ℕ → List ℕ → Type 0
TakesNone left left' = (left' ≡ left) ⊎ (left' ≡ [])
