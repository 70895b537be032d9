use Rattle.std.proofs.Common.{◌∙◌, ap, inl, sym}
use Rattle.serve_sockets.{specs.Connection.{answer_of, input_of, number_of}, proofs.OwnLemmas.put_kept}
use Rattle.serve_sockets.proofs.sockets.Sockets.pick_list.Goals as goal

pub returns-clause-answers : goal.returns-clause-answers
returns-clause-answers c =
    put_kept _ _ _ _ c.in_ok-connection.connection c.call.new.self (c.in_ok-connection.ensures.taken, c.in_ok-connection.ensures.free) (ap number_of c.call.ensures)
    (λ a has. (sym (ap answer_of c.call.ensures) ∙ has, ap input_of c.call.ensures)) (inl c.keep.ensures.put)
