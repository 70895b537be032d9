use Rattle.std.proofs.Common.{◌≡◌, take}
use Rattle.boot_desk.proofs.texts.image_args.Given as goal

abbrev pub invariant-loop-word : goal.invariant-loop-word
invariant-loop-word l = l.args.items ≡ take l.word-index l.words
