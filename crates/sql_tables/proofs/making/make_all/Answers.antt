use Rattle.sql_schema.specs.{Words.{at_drop_all, at_drop_more, state, earlier, survives_none, survives_both}, StepLaws.{gives, next, stays}}
use Rattle.std.proofs.Common.{map, Ok, refl, subst, ◌∙◌}
use Rattle.sql_tables.{specs.Creating.CanMake, proofs.MakingLemmas.{all_made, made_one}}
use Rattle.sql_tables.proofs.making.make_all.Goals as goal

pub loop-text-init : goal.loop-text-init
loop-text-init g c = record {
  same = refl;
  made = λ clean. stays _ _ (Ok tt) (λ after can. can);
  survives = survives_none _;
}

pub loop-text-preserved : goal.loop-text-preserved
loop-text-preserved g c =
    let left = at_drop_more (map (λ text. text.now)) c.args.texts.now c.loop-text.text-index _ c.loop-text-test.true in
    record {
      same = c.run.ensures.same_reference ∙ c.loop-text.invariant.same;
      made = λ clean. next _ tt (Ok tt) (c.loop-text.invariant.made (earlier c.run.ensures.survives clean)) (c.in_ok-run.ensures.ran clean)
          (λ done so_far ran after can. made_one ran _ after (subst (λ texts. CanMake (state g.S.Store c.loop-text.tx.conn.now).now texts after) left (so_far after can)));
      survives = survives_both c.loop-text.invariant.survives c.run.ensures.survives;
    }

pub returns-clause-made : goal.returns-clause-made
returns-clause-made g c clean =
    gives _ (Ok tt) (c.loop-text.invariant.made clean)
    (λ done so_far after can. all_made (subst (λ texts. CanMake (state g.S.Store c.loop-text.tx.conn.now).now texts after) (at_drop_all (map (λ text. text.now)) c.args.texts.now c.loop-text.text-index c.loop-text-test.false) (so_far after can)))
