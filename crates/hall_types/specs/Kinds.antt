-- The words and numbers of kinds, in texts and in tables.
use Rattle.std.specs.{Prelude.{ℕ, ◌==◌, List, [], ◌∷◌, Option, find, codes}, Str.bytes_eq}
use Rattle.pxe_vendor.specs.declared.arch.Arch.{Arch}
use Rattle.pxe_vendor.specs.declared.arch.Arch.TheVariants as arch
use Rattle.hall_types.specs.declared.kinds.{Role.Role, Purpose.Purpose, Stage.Stage, OrderKind.OrderKind, OrderStage.OrderStage, Erase.Erase, Progress.Progress, Outcome.Outcome}
use Rattle.hall_types.specs.declared.kinds.Role.TheVariants as role
use Rattle.hall_types.specs.declared.kinds.Purpose.TheVariants as purpose
use Rattle.hall_types.specs.declared.kinds.Stage.TheVariants as stage
use Rattle.hall_types.specs.declared.kinds.OrderKind.TheVariants as orderkind
use Rattle.hall_types.specs.declared.kinds.OrderStage.TheVariants as orderstage
use Rattle.hall_types.specs.declared.kinds.Erase.TheVariants as erase
use Rattle.hall_types.specs.declared.kinds.Progress.TheVariants as progress
use Rattle.hall_types.specs.declared.kinds.Outcome.TheVariants as outcome

-- the one of these kinds that has this word
abbrev pub with_text : {K : Type 0} → (K → List ℕ) → List ℕ → List K → Option K
with_text text_of text kinds = find (λ kind. bytes_eq (text_of kind) text) kinds

-- the one of these kinds that has this number
abbrev pub with_number : {K : Type 0} → (K → ℕ) → ℕ → List K → Option K
with_number number_of number kinds = find (λ kind. number_of kind == number) kinds

unfoldable pub role_text : Role → List ℕ
role_text role.Admin = codes "admin"
role_text role.User = codes "user"
role_text role.Power = codes "power"

unfoldable pub role_number : Role → ℕ
role_number role.Admin = 0
role_number role.User = 1
role_number role.Power = 2

abbrev pub roles : List Role
roles = role.Admin ∷ role.User ∷ role.Power ∷ []

abbrev pub role_of_text : List ℕ → Option Role
role_of_text text = with_text role_text text roles

unfoldable pub purpose_text : Purpose → List ℕ
purpose_text purpose.Commission = codes "commission"
purpose_text purpose.Test = codes "test"
purpose_text purpose.Deploy = codes "deploy"
purpose_text purpose.Erase = codes "erase"
purpose_text purpose.Rescue = codes "rescue"

unfoldable pub purpose_number : Purpose → ℕ
purpose_number purpose.Commission = 0
purpose_number purpose.Test = 1
purpose_number purpose.Deploy = 2
purpose_number purpose.Erase = 3
purpose_number purpose.Rescue = 4

abbrev pub purposes : List Purpose
purposes = purpose.Commission ∷ purpose.Test ∷ purpose.Deploy ∷ purpose.Erase ∷ purpose.Rescue ∷ []

unfoldable pub stage_number : Stage → ℕ
stage_number stage.Offered = 0
stage_number stage.Started = 1
stage_number stage.Done = 2
stage_number stage.Failed = 3

abbrev pub stages : List Stage
stages = stage.Offered ∷ stage.Started ∷ stage.Done ∷ stage.Failed ∷ []

unfoldable pub order_kind_text : OrderKind → List ℕ
order_kind_text orderkind.Cycle = codes "cycle"
order_kind_text orderkind.Off = codes "off"

unfoldable pub order_kind_number : OrderKind → ℕ
order_kind_number orderkind.Cycle = 0
order_kind_number orderkind.Off = 1

abbrev pub order_kinds : List OrderKind
order_kinds = orderkind.Cycle ∷ orderkind.Off ∷ []

unfoldable pub order_stage_number : OrderStage → ℕ
order_stage_number orderstage.Waiting = 0
order_stage_number orderstage.Done = 1
order_stage_number orderstage.Failed = 2
order_stage_number orderstage.Withdrawn = 3

abbrev pub order_stages : List OrderStage
order_stages = orderstage.Waiting ∷ orderstage.Done ∷ orderstage.Failed ∷ orderstage.Withdrawn ∷ []

unfoldable pub erase_text : Erase → List ℕ
erase_text erase.Quick = codes "quick"
erase_text erase.Full = codes "full"

unfoldable pub erase_number : Erase → ℕ
erase_number erase.Quick = 0
erase_number erase.Full = 1

abbrev pub erases : List Erase
erases = erase.Quick ∷ erase.Full ∷ []

abbrev pub erase_of_text : List ℕ → Option Erase
erase_of_text text = with_text erase_text text erases

unfoldable pub progress_text : Progress → List ℕ
progress_text progress.Started = codes "started"
progress_text progress.Done = codes "done"
progress_text progress.Failed = codes "failed"

abbrev pub progresses : List Progress
progresses = progress.Started ∷ progress.Done ∷ progress.Failed ∷ []

abbrev pub progress_of_text : List ℕ → Option Progress
progress_of_text text = with_text progress_text text progresses

unfoldable pub outcome_text : Outcome → List ℕ
outcome_text outcome.Done = codes "done"
outcome_text outcome.Failed = codes "failed"

abbrev pub outcomes : List Outcome
outcomes = outcome.Done ∷ outcome.Failed ∷ []

abbrev pub outcome_of_text : List ℕ → Option Outcome
outcome_of_text text = with_text outcome_text text outcomes

-- an architecture's number in tables
unfoldable pub arch_number : Arch → ℕ
arch_number arch.Bios = 0
arch_number arch.Uefi32 = 1
arch_number arch.Uefi64 = 2
arch_number arch.Arm64 = 3

abbrev pub archs : List Arch
archs = arch.Bios ∷ arch.Uefi32 ∷ arch.Uefi64 ∷ arch.Arm64 ∷ []

-- the stage of a boot after a report
abbrev pub stage_after : Progress → Stage
stage_after progress.Started = stage.Started
stage_after progress.Done = stage.Done
stage_after progress.Failed = stage.Failed
