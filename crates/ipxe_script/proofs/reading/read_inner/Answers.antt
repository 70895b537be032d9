use Rattle.ipxe_script.proofs.UnderstoodLemmas.{understood-commands, understood-made}
use Rattle.ipxe_script.proofs.reading.read_inner.Goals as goal

pub returns : goal.returns
returns c =
    let few = rw c.as_slice.ensures.value at c.if-are_too_many.ensures in
    let given = rw c.as_slice-2.ensures.value at c.in_ok-commands.ensures in
    understood-made c.args.text.now c.in_ok-commands.commands.items c.new.result
    (understood-commands c.args.text.now c.in_ok-body.body.now _ _ c.in_ok-body.ensures c.in_ok-lines.ensures few given) c.new.ensures.ok c.new.ensures.commands
