use Rattle.std.proofs.Common.{◌≡◌, ◌==◌, filter, map, take}
use Rattle.hall_desk.specs.Prelude.{listed, listing}
use Rattle.hall_desk.proofs.listing.sorted_reply.Given as goal

-- the machines so far stand in the list
abbrev pub invariant-loop-machine : goal.invariant-loop-machine
invariant-loop-machine l = l.list ≡ listing (map (λ m. listed m (filter (λ i. i.machine == m.id) l.interfaces)) (take l.machine-index l.machines))
