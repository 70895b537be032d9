use Rattle.std.proofs.Common.{subst}
use Rattle.laws_stores.specs.Prelude.{state, HasCleanDisk}
use Rattle.laws_stores.proofs.laws.sqlite_keeps_the_headline.Goals as goal

pub returns-clause-headline : goal.returns-clause-headline
returns-clause-headline g c = λ clean blank.
    let store_clean = subst (λ k. HasCleanDisk (state g.S.Store k)) c.into_connection.ensures.conn clean in
    c.in_ok-answers.ensures.headline store_clean c.args.admin c.args.digest (c.in-Ok.ensures.held (c.in_ok-answers.ensures.clean store_clean) blank)
