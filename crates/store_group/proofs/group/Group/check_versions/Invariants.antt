use Rattle.std.proofs.Common.{◌≡◌, Ok, take}
use Rattle.hall_store.specs.{Versions.HaveVersions, declared.store.Unavailable.Unavailable}
use Rattle.store_group.specs.Group.{GroupLooks, is_open, writes_of}
use Rattle.store_group.proofs.group.Group.check_versions.Given as goal

-- the writes so far have their versions
abbrev pub invariant-writes : goal.invariant-writes
invariant-writes g l =
    GroupLooks g.S.HallStore l.initial.self l.self {E = Unavailable} (Ok (tt {0})) (λ h answer. HaveVersions (take l.i l.writes) h) × (writes_of l.self ≡ writes_of l.initial.self) × (is_open l.self ≡ is_open l.initial.self)
