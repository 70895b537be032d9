use Rattle.std.proofs.Common.{◌≡◌}
use Rattle.hallview_pages.specs.Markup.{escape}
use Rattle.hallview_pages.proofs.markup.escaped.Given as goal

abbrev pub invariant-loop-octet : goal.invariant-loop-octet
invariant-loop-octet l = l.octets.items ≡ escape l.yielded
