-- The first machine with the least deadline, found in one walk.
use Rattle.std.specs.Prelude.{Option, Some, None}
use Rattle.store_memory.specs.Prelude.{sooner, Machine}

-- the one of what was found so far and what comes after it
abbrev pub joined : Option Machine → Option Machine → Option Machine
joined None later = later
joined (Some m) later = Some (sooner m later)
