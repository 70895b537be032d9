use Rattle.std.proofs.Common.{[], refl}
use Rattle.hall_desk.specs.{AttemptLaws.{answered_whole, missed_same, unread}, declared.arrival.Input.TheVariants.Request}
use Rattle.hall_desk.proofs.desk.Desk.take_request.Goals as goal

pub returns-in-Whole-clause-step : goal.returns-in-Whole-clause-step
returns-in-Whole-clause-step g c = λ clean.
    answered_whole _ _ _ _ _ _ [] _ _ _ _ _ c.in-Whole.ensures.reads.0 refl c.in-Whole.ensures.reads.1 (c.answer.ensures.given clean).1

pub returns-in-NoMemory-clause-step : goal.returns-in-NoMemory-clause-step
returns-in-NoMemory-clause-step g c = λ clean. unread _ g.S.HallStore.wider _ _ _ _ [] _

pub returns-in-Whole-clause-some : goal.returns-in-Whole-clause-some
returns-in-Whole-clause-some g c = λ clean. (_, (c.answer.ensures.given clean).1)

pub returns-in-NoMemory-clause-some : goal.returns-in-NoMemory-clause-some
returns-in-NoMemory-clause-some g c = λ clean. ([], missed_same _ g.S.HallStore.wider _ _ _ _ (Request []))
