use Rattle.std.proofs.{Common.{take, ◌++◌, ◌∷◌, [], sym, ap, ◌∙◌}, lemmas.List.take_more}
use Rattle.hall_types.specs.{Hall.applied, ChangeLaws.applied_append}
use Rattle.store_group.proofs.keyed.after_all.Goals as goal

pub writes-preserved : goal.writes-preserved
writes-preserved g c = λ h was.
    let i = c.writes.write-index in
    let ws = c.args.writes.now in
    c.in_ok-last.ensures (applied (take i ws) h) (c.writes.invariant h was)
    ∙ (ap (λ hall. g.K.Keyed.row_in c.args.key.now hall) (sym (applied_append (take i ws) (c.write-item.result ∷ []) h))
    ∙ ap (λ xs. g.K.Keyed.row_in c.args.key.now (applied xs h)) (sym (take_more ws i c.write-item.result c.writes-test.true ∙ ap (λ x. take i ws ++ x ∷ []) (sym c.write-item.is))))
