-- What a call answers where a decision is defined.
use Rattle.std.specs.Prelude.{◌≡◌, ⊤, Result, Ok, Err}
use Rattle.hall_types.specs.declared.refusal.Refusal.{Refusal}
use Rattle.boot_desk.specs.declared.fault.DeskFault.{DeskFault, TheVariants.{Refused, Memory}}

-- the decision is given, or its refusal, or memory is wanting
abbrev pub Decides : {D : Type 0} → Result D DeskFault → Result D Refusal → Type 0
Decides (Ok decision) decided = decided ≡ Ok decision
Decides (Err (Refused refusal)) decided = decided ≡ Err refusal
Decides (Err Memory) decided = ⊤
