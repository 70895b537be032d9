use Rattle.std.proofs.Common.{◌≡◌}
use Rattle.pxe_vendor.specs.Client.{boot_item}
use Rattle.pxe_vendor.proofs.serve.first_item.Given as goal

-- the tags so far hold no item
abbrev pub invariant-loop-tag : goal.invariant-loop-tag
invariant-loop-tag l = boot_item l.tag-iterator ≡ boot_item l.fn.tags
