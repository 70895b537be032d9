use Rattle.std.proofs.Common.{[], refl, subst}
use Rattle.laws_stores.specs.Prelude.{created, new_hall, second, Headline, exchanges}
use Rattle.laws_stores.proofs.laws.answer_all.Goals as goal

pub returns-in-Ok-clause-headline : goal.returns-in-Ok-clause-headline
returns-in-Ok-clause-headline g c = λ clean admin digest held.
    let start = c.new-desk.ensures.history (created admin digest) (new_hall second admin digest) refl held in
    let after = c.in-Ok.ensures.history (subst g.S.HallStore.is_clean c.into_store.ensures clean) (created admin digest) [] start in
    (after.end, subst (λ at. Headline (created admin digest) (exchanges at c.args.arrivals.now c.in-Ok.answers.items) after.end) c.new-desk.ensures.site after.headline)
