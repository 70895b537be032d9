use Rattle.std.proofs.Common.{◌≡◌, ◌++◌, map, string_bytes}
use Rattle.toml.specs.View.{members_view}
use Rattle.halls_file.specs.Halls.{after, halls_of, seen}
use Rattle.halls_file.proofs.entries.entries_of.Given as goal

-- what was read so far, with the tables that are left, are all tables
abbrev pub invariant-tables : goal.invariant-tables
invariant-tables l =
    (after (map seen l.entries.items) (halls_of (members_view l.name-iterator)) ≡ halls_of (members_view l.tables.entries))
    × (map (λ entry. entry.name) l.entries.items ++ map (λ table. string_bytes table.0) l.name-iterator ≡ map (λ table. string_bytes table.0) l.tables.entries)
