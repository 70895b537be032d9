use Rattle.std.{proofs.{Common.{◌≡◌, ◌==◌, ◌++◌, ◌∙◌, ℕ, filter, ap, subst, IfOk, string_bytes, List}, Math.Path.fun_ext}, specs.List.flat_map}
use Rattle.hall_report.specs.{Prelude.{Interface, Machine}, Export.{header, machine_fields, record_text}}
use Rattle.hall_report.proofs.export.machines_export.Goals as goal

pub returns : goal.returns
returns c =
    let ms = c.args.machines.now in
    subst (λ records. IfOk c.sorted_export.result (λ text. string_bytes text ≡ record_text header ++ records))
    (ap (λ (is : List Interface). flat_map (λ m. record_text (machine_fields m (filter (λ i. i.machine == m.id) is))) ms) c.deref.ensures.value
    ∙ ap (λ (f : Machine → List ℕ). flat_map f ms) (fun_ext (λ m. ap (λ own. record_text (machine_fields m own)) (c.in_ok-sort_by_machine.ensures.same m.id))))
    c.sorted_export.ensures
