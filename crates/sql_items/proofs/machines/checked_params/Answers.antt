use Rattle.sql_schema.specs.Words.{Blob, Text, status_number, number}
use Rattle.std.proofs.Common.{refl}
use Rattle.sql_items.proofs.MachineLemmas.{bound_optional}
use Rattle.sql_items.proofs.machines.checked_params.Goals as goal

pub returns : goal.returns
returns c =
    let m = c.args.machine.now in
    rw (c.number_value.ensures, c.small_value.ensures, c.optional_octets.ensures, c.name_value.ensures, c.small_value-2.ensures, c.optional_name.ensures, c.optional_name-2.ensures)
    (rw (c.truth_value.ensures, c.optional_status.ensures, c.truth_value-2.ensures, c.number_value-2.ensures, c.stored_deadline.ensures, c.optional_number.ensures, c.small_value-3.ensures)
    (rw (c.optional_number-2.ensures, c.number_value-3.ensures, c.get.ensures.number, c.arch_number.ensures, c.number.ensures.number, c.get-2.ensures.number, c.get-3.ensures.count, c.get-4.ensures.number)
    (rw (c.requires.uuid, bound_optional Blob (λ x. refl) m.uuid, bound_optional Text (λ x. refl) m.owner, bound_optional Text (λ x. refl) m.image)
    (rw (bound_optional (λ s. number (status_number s)) (λ x. refl) m.back, bound_optional number (λ x. refl) m.deadline, bound_optional number (λ x. refl) m.boot, bound_optional number (λ x. refl) m.waiting) refl))))
