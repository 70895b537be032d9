use Rattle.sql_schema.specs.Words.{ints}
use Rattle.std.proofs.Common.{◌≡◌, Err, ap, arith, refl, sym, subst, ◌∙◌}
use Rattle.sql_tables.{specs.Opening.{IsOneRow, IsVersionOf}, proofs.LookLemmas.none_found}
use Rattle.sql_tables.proofs.looking.version_in.Goals as goal

pub returns-in-Err-clause-told : goal.returns-in-Err-clause-told
returns-in-Err-clause-told c n row = subst (λ e. IsVersionOf c.args.wanted n (Err e)) (sym (c.in-Err.ensures.said n row).1) tt

pub returns-in-Err-clause-found : goal.returns-in-Err-clause-found
returns-in-Err-clause-found c = none_found (IsOneRow c.args.rows.now.items) c.args.wanted c.in-Err.fault (λ e. c.in-Err.ensures.never (ap (λ k. Err k) e))

pub returns-then-schema-number_of-clause-told : goal.returns-then-schema-number_of-clause-told
returns-then-schema-number_of-clause-told c n row =
    let is : c.in-Ok.schema ≡ c.number_of.result = grind (arith, ints, c.if-schema-number_of.true) in sym (c.in-Ok.ensures.said n row).0 ∙ is ∙ c.number_of.ensures

pub returns-then-schema-number_of-clause-found : goal.returns-then-schema-number_of-clause-found
returns-then-schema-number_of-clause-found c =
    let is : c.in-Ok.schema ≡ c.number_of.result = grind (arith, ints, c.if-schema-number_of.true) in subst (IsOneRow c.args.rows.now.items) (is ∙ c.number_of.ensures) c.in-Ok.ensures.one

pub returns-else-schema-number_of-clause-told : goal.returns-else-schema-number_of-clause-told
returns-else-schema-number_of-clause-told c n row same =
    let is : c.in-Ok.schema ≡ c.number_of.result = (c.in-Ok.ensures.said n row).0 ∙ same ∙ sym c.number_of.ensures in c.if-schema-number_of.false (rw is refl)

pub returns-else-schema-number_of-clause-found : goal.returns-else-schema-number_of-clause-found
returns-else-schema-number_of-clause-found c =
    (c.in-Ok.schema, c.in-Ok.ensures.one, λ same. let is : c.in-Ok.schema ≡ c.number_of.result = same ∙ sym c.number_of.ensures in c.if-schema-number_of.false (rw is refl))
