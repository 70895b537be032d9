use Rattle.std.specs.Prelude.{codes, decimal, length}
use Rattle.hallctl_requests.{specs.Request.field_line, proofs.PushLemmas.in_four}
use Rattle.hallctl_requests.proofs.requests.push_body.Goals as goal

pub returns : goal.returns
returns c =
    in_four c.args.octets.now.items (field_line (codes "Content-Type") (codes "application/json")) (field_line (codes "Content-Length") (decimal (length c.args.body.now)))
    (codes "\r\n") c.args.body.now _ _ _ _
    c.in_ok-push_field.ensures
    (rw c.format.ensures.text at c.in_ok-push_field-2.ensures)
    c.in_ok-extend_from_slice.ensures.items
    (rw c.as_bytes.ensures.value at c.in_ok-extend_from_slice-2.ensures.items)
