-- Which machine expires at a quiet moment, and what becomes of it.
use Rattle.std.specs.Prelude.{ℕ, nat_le, Bool, false, List, [], Option, Some, None, Result, Ok, Err, if◌then◌else◌}
use Rattle.hall_types.specs.declared.{change.RowWrite.RowWrite, refusal.Refusal.Refusal}
use Rattle.life_cycle.specs.{Table.step_of, declared.signal.Signal.TheVariants.Expired}
use Rattle.boot_desk.specs.{declared.views.BootView.BootView, Following.followed}

-- a deadline is due once its moment has come
abbrev pub is_due : Option ℕ → ℕ → Bool
is_due None moment = false
is_due (Some deadline) moment = nat_le deadline moment

abbrev pub rows_or_none : Result (List RowWrite) Refusal → List RowWrite
rows_or_none (Ok rows) = rows
rows_or_none (Err refusal) = []

-- the machine whose deadline comes first takes the step of an expiry, if it is due
unfoldable pub swept : Option BootView → ℕ → List RowWrite
swept None moment = []
swept (Some v) moment =
    if is_due v.machine.deadline moment then rows_or_none (followed [] v moment (step_of v.machine Expired)) else []
