use Rattle.std.proofs.lemmas.Result.{err_from_is_err_and}
use Rattle.ipxe_script.proofs.ReadingLemmas.{commands_of-ends}
use Rattle.ipxe_script.proofs.reading.commands_of.Goals as goal

pub returns-in_err-command_in : goal.returns-in_err-command_in
returns-in_err-command_in c =
    let p = err_from_is_err_and c.from_residual-in_err-command_in.result c.from_residual-in_err-command_in.ensures.1 in
    rw (p.1, p.2) (commands_of-ends c.loop-line.commands.items c.args.lines.now c.loop-line.line-index _ c.in_err-command_in.field-0.0 _ c.loop-line-test.true c.in_err-command_in.ensures c.loop-line.invariant)
