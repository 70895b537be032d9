use Rattle.std.{proofs.{Common.{ℕ, refl}, lemmas.List.drop-replicate}, specs.Prelude.length}
use Rattle.hall_types.proofs.name.filled.Goals as goal

pub returns : goal.returns
returns c = rw (c.copy_from_slice.ensures.after, drop-replicate {X = ℕ} (length c.args.text.now) 32 0) refl
