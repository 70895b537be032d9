-- An answer that is the hall's goes on from all that came to the hall.
use Rattle.std.proofs.Common.{◌≡◌, false, subst, sym}
use Rattle.hall_desk.specs.{Prelude.{Hall, Ghosts}, Account.{IsDatagram, IsFound, IsReadAs}, Answering.Gives, Attempt.{GivesAnswer, IsOnlyRead}, Desk.{enlists_of, site_of, store_of}, HistoryLaws.{AreHistoryLaws, after_answer, after_given, after_stop}, declared.{account.Account.Account, arrival.{Answer.Answer, Arrival.Arrival, Input.Input}, desk.Desk.Desk}}

-- the answer is what the hall gives, and the account is of what came
pub record IsTaken {S : Type 0} (g : Ghosts S) (old new : Desk S) (arrival : Arrival) (given : Answer × Account) : Type 0 where
  pub site : site_of new ≡ site_of old
  pub enlists : enlists_of new ≡ enlists_of old
  pub answer : GivesAnswer g (store_of old) (store_of new) (site_of old) arrival.input arrival.moment arrival.fresh given.0
  pub came : IsReadAs arrival.input given.1.came
  pub found : g.is_clean (store_of new) → (h : Hall) → g.holds (store_of old) h
      → IsFound (enlists_of old) (site_of old) h arrival.input arrival.moment arrival.fresh given.0 given.1
  pub unlisted : enlists_of old ≡ false → IsDatagram arrival.input → g.is_clean (store_of new) → IsOnlyRead g (store_of old) (store_of new)

pub gives : AreHistoryLaws → {S : Type 0} (g : Ghosts S) (old new : Desk S) (arrival : Arrival) (given : Answer × Account) → IsTaken g old new arrival given → Gives g old new arrival given
gives laws g old new arrival given it = record {
  answered = record {
    site = it.site;
    enlists = it.enlists;
    given = it.answer;
    history = λ clean origin past was.
        after_answer laws g (store_of old) (store_of new) (site_of old) origin past was arrival given.0 (it.answer clean).1;
    settled = λ clean origin past was.
        after_given laws g (store_of old) (store_of new) (site_of old) origin past was arrival given.0 (it.answer clean).1;
    stop = λ clean origin past was.
        after_stop laws g (store_of old) (store_of new) (site_of old) origin past was arrival given.0 (it.answer clean).1;
    unlisted = it.unlisted;
  };
  came = it.came;
  found = it.found;
}

-- what came is an arrival's input
pub of_input : {S : Type 0} (g : Ghosts S) (old new : Desk S) (arrival : Arrival) (given : Answer × Account) (what : Input) → arrival.input ≡ what
    → Gives g old new (record { moment = arrival.moment; fresh = arrival.fresh; input = what }) given → Gives g old new arrival given
of_input g old new arrival given what is it =
    subst (λ its. Gives g old new (record { moment = arrival.moment; fresh = arrival.fresh; input = its }) given) (sym is) it
