use Rattle.laws_stores.proofs.laws.memory_keeps_the_headline.Goals as goal

pub returns-clause-headline : goal.returns-clause-headline
returns-clause-headline c = c.in_ok-answers.ensures.headline tt c.args.admin c.args.digest c.in_ok-store.ensures
