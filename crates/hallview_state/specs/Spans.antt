-- How long something lasts.
use Rattle.std.specs.Prelude.{◌/◌, ℕ, List, ◌++◌, nat_lt, codes, decimal, if◌then◌else◌}

-- how long something lasts, in words
abbrev pub span_text : ℕ → List ℕ
span_text seconds =
    if nat_lt seconds 60 then decimal seconds ++ codes " s"
    else if nat_lt (seconds / 3600) 2 then decimal (seconds / 60) ++ codes " min"
    else if nat_lt (seconds / 86400) 2 then decimal (seconds / 3600) ++ codes " h"
    else decimal (seconds / 86400) ++ codes " days"
