use Rattle.boot_desk.specs.TextLaws.{purpose_word}
use Rattle.boot_desk.proofs.texts.purpose_word.Goals as goal

pub word-requires : goal.word-requires
word-requires c = rw (c.as_str.ensures.value, c.in_ok-text.ensures.ok, c.text.ensures) (purpose_word c.args.purpose)
