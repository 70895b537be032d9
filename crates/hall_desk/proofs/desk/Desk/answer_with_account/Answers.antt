use Rattle.std.proofs.Common.{◌∙◌, ap, sym}
use Rattle.hall_desk.{specs.declared.arrival.Input.TheVariants.Datagram, proofs.AnsweringLemmas.of_input}
use Rattle.hall_desk.proofs.desk.Desk.answer_with_account.Goals as goal

pub returns-in-Datagram : goal.returns-in-Datagram
returns-in-Datagram g c =
    of_input g.S.HallStore _ _ c.args.arrival.now _ _ (c.in-Datagram.is ∙ ap (λ octets. Datagram c.in-Datagram.port octets) (sym c.as_slice.ensures)) c.answer_datagram.ensures

pub returns-in-Request : goal.returns-in-Request
returns-in-Request g c = of_input g.S.HallStore _ _ c.args.arrival.now _ _ c.in-Request.is c.answer_request.ensures

pub returns-in-Quiet : goal.returns-in-Quiet
returns-in-Quiet g c = of_input g.S.HallStore _ _ c.args.arrival.now _ _ c.in-Quiet.is c.answer_quiet.ensures
