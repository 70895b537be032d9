use Rattle.boot_desk.specs.TextLaws.{joined_arguments}
use Rattle.boot_desk.proofs.texts.push_desk_arguments.Goals as goal

pub returns-clause-args : goal.returns-clause-args
returns-clause-args c =
    rw (
      c.in_ok-push-4.ensures.items,
      c.in_ok-push-3.ensures.items,
      c.in_ok-push-2.ensures.items,
      c.in_ok-push_erase.ensures.args,
      c.in_ok-push.ensures.items,
      c.in_ok-purpose_word.ensures,
      c.in_ok-boot_word.ensures,
      c.in_ok-token_word.ensures,
      c.in_ok-desk_word.ensures,
    ) (joined_arguments _ _ _ _ _ _)
