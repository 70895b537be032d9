-- What an answer of a desk promises, over any store.
use Rattle.std.specs.Prelude.{◌≡◌, false, List, [], ◌∷◌, ◌++◌}
use Rattle.hall_desk.specs.{Prelude.{Hall, Ghosts}, Account.{IsDatagram, IsFound, IsReadAs}, Attempt.{GivesAnswer, IsOnlyRead}, Desk.{enlists_of, site_of, store_of}, Headline.HasHistory, History.{Item, Origin, exchanged}, Octets.IsGiven, Stops.{IsLeft, IsSettled, OrUnanswered}, declared.{account.Account.Account, arrival.{Answer.Answer, Arrival.Arrival}, desk.Desk.Desk}}

-- An arrival is answered so, and the desk stays where it is. Each promise but these two is made where the store is clean afterwards.
pub record Answers {S : Type 0} (g : Ghosts S) (old new : Desk S) (arrival : Arrival) (answer : Answer) : Type 0 where
  pub site : site_of new ≡ site_of old
  pub enlists : enlists_of new ≡ enlists_of old
  -- the answer is what the hall gives
  pub given : GivesAnswer g (store_of old) (store_of new) (site_of old) arrival.input arrival.moment arrival.fresh answer
  -- with all that came to the hall since it was new, it is a history that keeps all laws
  pub history : g.is_clean (store_of new) → (origin : Origin) (past : List Item) → HasHistory g (store_of old) origin past
      → HasHistory g (store_of new) origin (past ++ exchanged (site_of old) arrival answer ∷ [])
  -- of a store that was settled, a stop then leaves the hall after it alone
  pub settled : g.is_clean (store_of new) → (origin : Origin) (past : List Item) → (was : IsSettled g (store_of old) origin past)
      → IsGiven (site_of old) was.history.end arrival.input arrival.moment arrival.fresh answer
      → IsSettled g (store_of new) origin (past ++ exchanged (site_of old) arrival answer ∷ [])
  -- and a stop on the way the hall before it, or the hall after it
  pub stop : g.is_clean (store_of new) → (origin : Origin) (past : List Item) → IsSettled g (store_of old) origin past
      → IsLeft g (store_of new) origin (OrUnanswered past (site_of old) arrival)
  -- a desk that enlists no one only reads for a datagram
  pub unlisted : enlists_of old ≡ false → IsDatagram arrival.input → g.is_clean (store_of new) → IsOnlyRead g (store_of old) (store_of new)

-- The answer to what came, with an account of it.
pub record Gives {S : Type 0} (g : Ghosts S) (old new : Desk S) (arrival : Arrival) (given : Answer × Account) : Type 0 where
  pub answered : Answers g old new arrival given.0
  -- the account says what came, as its octets say it
  pub came : IsReadAs arrival.input given.1.came
  -- and what was found in the hall, and changed
  pub found : g.is_clean (store_of new) → (h : Hall) → g.holds (store_of old) h
      → IsFound (enlists_of old) (site_of old) h arrival.input arrival.moment arrival.fresh given.0 given.1
