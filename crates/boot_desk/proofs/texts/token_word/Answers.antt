use Rattle.boot_desk.specs.TextLaws.{token_word}
use Rattle.boot_desk.proofs.texts.token_word.Goals as goal

pub word-requires : goal.word-requires
word-requires c =
    rw (c.as_str.ensures.value, c.in_ok-text.ensures.ok, c.in_ok-digits.ensures, c.octets.ensures.octets)
    (token_word c.args.token c.octets.ensures.range)
