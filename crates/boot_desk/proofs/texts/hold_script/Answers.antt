use Rattle.std.{proofs.Common.{◌≡◌, List, Ok, sym, ap, ◌∙◌}, specs.Prelude.Result}
use Rattle.ipxe_script.specs.{Understood.understood, declared.{command.Command.Command, fault.ScriptFault.ScriptFault}}
use Rattle.boot_desk.specs.{Texts.hold_script, TextLaws.{held, hold_is_script}}
use Rattle.boot_desk.proofs.texts.hold_script.Goals as goal

pub returns-in-Ok : goal.returns-in-Ok
returns-in-Ok c =
    let same : ◌≡◌ {A = Result (List Command) ScriptFault} (Ok c.in-Ok.script) (Ok hold_script) =
    sym c.in-Ok.ensures.exact ∙ (sym (ap understood held) ∙ c.one_spelling.ensures.printed hold_script hold_is_script) in
    cc
