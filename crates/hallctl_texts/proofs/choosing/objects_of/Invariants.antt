use Rattle.std.proofs.Common.{◌≡◌, take}
use Rattle.hallctl_texts.specs.Choice.{keyed_views, views}
use Rattle.hallctl_texts.proofs.choosing.objects_of.Given as goal

-- the objects of the machines so far
abbrev pub invariant-loop-machine : goal.invariant-loop-machine
invariant-loop-machine l = views l.objects.items ≡ keyed_views (take l.machine-index l.machines)
