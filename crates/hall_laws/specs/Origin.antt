-- Where the history of a hall of the second schema begins.
use Rattle.std.specs.Prelude.{◌≡◌, ℕ, List, []}
use Rattle.hall_laws.specs.{Prelude.{Hall, first, new_hall, second}, Migration.IsMigrated, Step.Step, FirstSchema.IsFirstRun}

-- the name of the first admin and the digest of its token
pub data Origin : Type 0 where
  -- a new hall of the second schema
  created : List ℕ → List ℕ → Origin
  -- a new hall of the first schema, which took these steps and was then carried over
  carried_over : List ℕ → List ℕ → List Step → Origin

-- the hall of the second schema with which the history begins
abbrev pub BeginsWith : Origin → Hall → Type 0
BeginsWith (created admin digest) h = h ≡ new_hall second admin digest
BeginsWith (carried_over admin digest steps) h = (old : Hall) × IsFirstRun (new_hall first admin digest) steps old × IsMigrated old h

-- the steps of the first schema that are in its past
abbrev pub first_steps : Origin → List Step
first_steps (created admin digest) = []
first_steps (carried_over admin digest steps) = steps
