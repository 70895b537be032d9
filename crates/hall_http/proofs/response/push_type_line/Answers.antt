use Rattle.std.specs.Prelude.{codes}
use Rattle.hall_http.{specs.Response.type_line, proofs.ResponseLemmas.in_three}
use Rattle.hall_http.proofs.response.push_type_line.Goals as goal

pub returns : goal.returns
unfolding type_line
returns c =
    in_three c.args.octets.now.items (codes "Content-Type: ") c.args.kind.now (codes "\r\n") _ _ _
    c.in_ok-extend_from_slice.ensures.items
    (rw c.as_bytes.ensures.value at c.in_ok-extend_from_slice-2.ensures.items)
    c.in_ok-extend_from_slice-3.ensures.items
