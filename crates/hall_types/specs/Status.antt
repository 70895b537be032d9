-- Where a machine stands in its life (after the node statuses of MAAS).
use Rattle.std.specs.Prelude.{ℕ, List, [], ◌∷◌, Option, Bool, true, false, codes}
use Rattle.hall_types.specs.{Kinds.with_text, declared.status.Status.{Status, TheVariants.{New, Commissioning, FailedCommissioning, Testing, FailedTesting, Ready, Allocated, Deploying, FailedDeployment, Deployed, Releasing, FailedReleasing, DiskErasing, FailedDiskErasing, EnteringRescue, FailedToEnterRescue, Rescue, ExitingRescue, FailedToExitRescue, Broken}}}

-- the printed text
unfoldable pub status_text : Status → List ℕ
status_text New = codes "New"
status_text Commissioning = codes "Commissioning"
status_text FailedCommissioning = codes "Failed commissioning"
status_text Testing = codes "Testing"
status_text FailedTesting = codes "Failed testing"
status_text Ready = codes "Ready"
status_text Allocated = codes "Allocated"
status_text Deploying = codes "Deploying"
status_text FailedDeployment = codes "Failed deployment"
status_text Deployed = codes "Deployed"
status_text Releasing = codes "Releasing"
status_text FailedReleasing = codes "Failed releasing"
status_text DiskErasing = codes "Disk erasing"
status_text FailedDiskErasing = codes "Failed disk erasing"
status_text EnteringRescue = codes "Entering rescue mode"
status_text FailedToEnterRescue = codes "Failed to enter rescue mode"
status_text Rescue = codes "Rescue mode"
status_text ExitingRescue = codes "Exiting rescue mode"
status_text FailedToExitRescue = codes "Failed to exit rescue mode"
status_text Broken = codes "Broken"

-- the number in tables
unfoldable pub status_number : Status → ℕ
status_number New = 0
status_number Commissioning = 1
status_number FailedCommissioning = 2
status_number Testing = 3
status_number FailedTesting = 4
status_number Ready = 5
status_number Allocated = 6
status_number Deploying = 7
status_number FailedDeployment = 8
status_number Deployed = 9
status_number Releasing = 10
status_number FailedReleasing = 11
status_number DiskErasing = 12
status_number FailedDiskErasing = 13
status_number EnteringRescue = 14
status_number FailedToEnterRescue = 15
status_number Rescue = 16
status_number ExitingRescue = 17
status_number FailedToExitRescue = 18
status_number Broken = 19

-- whether a machine stays there until somebody does something
unfoldable pub is_failure : Status → Bool
is_failure FailedCommissioning = true
is_failure FailedTesting = true
is_failure FailedDeployment = true
is_failure FailedReleasing = true
is_failure FailedDiskErasing = true
is_failure FailedToEnterRescue = true
is_failure FailedToExitRescue = true
is_failure Broken = true
is_failure _ = false

abbrev pub statuses : List Status
statuses =
    New ∷ Commissioning ∷ FailedCommissioning ∷ Testing ∷ FailedTesting ∷ Ready ∷ Allocated ∷ Deploying ∷ FailedDeployment ∷ Deployed
    ∷ Releasing ∷ FailedReleasing ∷ DiskErasing ∷ FailedDiskErasing ∷ EnteringRescue ∷ FailedToEnterRescue ∷ Rescue ∷ ExitingRescue
    ∷ FailedToExitRescue ∷ Broken ∷ []

-- the status with this text
abbrev pub status_of_text : List ℕ → Option Status
status_of_text text = with_text status_text text statuses
