use Rattle.std.proofs.{Common.{◌≡◌, List, arith, length, subst, sym}, lemmas.{Grind.common_steps, List.take_all}}
use Rattle.serve_sockets.{specs.{Prelude.{Arrival, missed_answers, site_of, store_of}, Gathering.IsHandedAs}, proofs.GatheringLemmas.{all_refused, group_handed, none_answered}}
use Rattle.serve_sockets.proofs.handing.Server.hand_group.Goals as goal

pub returns-in-Ok-clause-refused : goal.returns-in-Ok-clause-refused
returns-in-Ok-clause-refused g c = λ clean.
    let none : length c.in-Ok.answered.answers.items ≡ 0 = grind (arith, common_steps, c.if-is_empty.ensures) in
    none_answered g.S.HallStore _ _ _ c.args.arrivals.now c.requires.some c.requires.requests c.in-Ok.answered.answers.items none (c.in-Ok.ensures.run clean)

pub returns-in-Ok-2-clause-answered : goal.returns-in-Ok-2-clause-answered
returns-in-Ok-2-clause-answered g c = λ clean. group_handed g.S.HallStore _ _ _ _ _ (c.in-Ok.ensures.run clean)

pub returns-in-Err-clause-refused : goal.returns-in-Err-clause-refused
returns-in-Err-clause-refused g c = λ clean.
    subst (λ (xs : List Arrival). IsHandedAs g.S.HallStore (store_of c.args.self.now.desk) (store_of c.answer_group.new.self) (site_of c.args.self.now.desk) xs (missed_answers xs))
    (sym (take_all (length c.args.arrivals.now) c.args.arrivals.now (omega arith)))
    (all_refused g.S.HallStore _ _ _ c.args.arrivals.now c.requires.some c.requires.requests (c.in-Err.ensures.missed clean))
