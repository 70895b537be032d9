use Rattle.std.specs.Prelude.{List}
use Rattle.desk_command.{specs.Prelude.{applied, RowWrite, Content, if_ok, IsSound}, proofs.SoundLemmas.command_keeps}
use Rattle.desk_command.proofs.laws.commands_keep_halls_sound.Goals as goal

pub returns : goal.returns
returns c = λ h bearer key command moment rows content s in_second.
    if_ok (λ (d : List RowWrite × Content). IsSound (applied d.0 h)) _ (rows, content) (command_keeps h s in_second bearer key command moment)
