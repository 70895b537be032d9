use Rattle.boot_desk.specs.TextLaws.{erase_word}
use Rattle.boot_desk.proofs.texts.erase_word.Goals as goal

pub word-requires : goal.word-requires
word-requires c = rw (c.as_str.ensures.value, c.in_ok-text.ensures.ok, c.text.ensures) (erase_word c.args.erase)
