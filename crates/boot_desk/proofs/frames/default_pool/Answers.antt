use Rattle.std.proofs.Common.{refl}
use Rattle.boot_desk.specs.TextLaws.{default_is_name}
use Rattle.boot_desk.proofs.frames.default_pool.Goals as goal

pub unreachable-requires : goal.unreachable-requires
unreachable-requires c = c.in-Err.ensures.bad.0 refl default_is_name
