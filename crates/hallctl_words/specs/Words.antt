-- The values that words of a command line say.
use Rattle.std.specs.Prelude.{ℕ, ◌*◌, ◌-◌, ◌==◌, nat_le, bytes_eq, List, length, take, slice_index, Option, Some, None, option_and_then, option_map, codes, if◌then◌else◌}
use Rattle.pxe_vendor.specs.Digits.{numeral}
use Rattle.uuid.specs.Text.{parsed}
use Rattle.hall_types.specs.{Kinds.erase_of_text, Uuid.unless_blank, declared.kinds.Erase.Erase}

-- the UUID of a machine's system
abbrev pub uuid_in : List ℕ → Option (List ℕ)
uuid_in text = option_and_then unless_blank (parsed text)

-- how disks are erased, where `none` isn't at all
abbrev pub erase_in : List ℕ → Option (Option Erase)
erase_in text = if bytes_eq text (codes "none") then Some None else option_map Some (erase_of_text text)

-- a year of 365 days, in seconds
abbrev pub max_seconds : ℕ
max_seconds = 31536000

-- so many units of this many seconds, if that is at most the maximum
abbrev pub within : ℕ → Option ℕ → Option ℕ
within unit None = None
within unit (Some count) = if nat_le (count * unit) max_seconds then Some (count * unit) else None

-- the time that is so many units
abbrev pub times_at_most : ℕ → List ℕ → Option ℕ
times_at_most unit text = within unit (numeral text)

-- the time before a unit's letter: `s`, `m` or `h`; without one it is in seconds
abbrev pub seconds_by : ℕ → List ℕ → List ℕ → Option ℕ
seconds_by letter count text =
    if letter == 115 then times_at_most 1 count
    else if letter == 109 then times_at_most 60 count
    else if letter == 104 then times_at_most 3600 count
    else times_at_most 1 text

-- the seconds of a time
abbrev pub seconds_in : List ℕ → Option ℕ
seconds_in text =
    if length text == 0 then None
    else seconds_by (slice_index text (length text - 1)) (take (length text - 1) text) text
