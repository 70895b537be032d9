-- The promise to all who trust a hall. In words, for every list of what came to it since it was new, or since it was carried over from
-- the first schema:
--
-- the tables and every octet that was answered are those of the model; a Deployed machine is told only to boot its own disk; a text
-- is given only to a client that asked for its script, and is a whole script within its limits; a script that erases is given only
-- for a machine that its owner released for erasing, and one that writes an image only for a machine that its owner deployed with
-- it; a report counts at most once, and only for its machine's own boot; a command is accepted once for its key, and repeats get
-- the first answer; a machine stays, unless it is deleted by an accepted command, and its version rises exactly where something else
-- of it changes; an order is queued at an entry of its machine, and counts once; every refusal changes nothing. All this held of the
-- steps of the first schema too. And it holds over stops of the desk: what came when it stopped came to the hall or didn't, and a
-- command that is answered by the status 200 was accepted, once, however often it was sent before.
use Rattle.std.specs.Prelude.{◌≡◌, ◌<◌, ◌⊎◌, ℕ, List, [], ◌∷◌, ◌++◌, take, length, Option, Some}
use Rattle.hall_desk.specs.{Prelude.{Site, Hall, IsRun, Step, KeepsLaws, first_steps, Ghosts}, History.{AllLead, AreStepsOf, BeginsWith, Item, Origin, exchanged}, Octets.octets_of, declared.{arrival.{Answer.Answer, Arrival.Arrival, Input.TheVariants.Request}, serving.Served.{Served, TheVariants.{Answered, ReadFailed, WriteFailed}}}}

-- What came to a hall of this origin, until it was the last one.
pub record Headline (origin : Origin) (items : List Item) (end : Hall) : Type 0 where
  pub begin : Hall
  pub begins : BeginsWith origin begin
  -- the tables, and every octet answered: each item leads from the hall that the one before left, as the model says
  pub led : AllLead begin items end
  pub steps : List Step
  pub run : IsRun begin steps end
  pub are : AreStepsOf items steps
  -- each law of the past, by its name, with the steps of the first schema in the past if there were any, and of those steps; and the
  -- last hall is sound
  pub laws : KeepsLaws (first_steps origin) steps end

-- a request that came
abbrev pub requested : List ℕ → ℕ → List ℕ → Arrival
requested octets moment fresh = record { moment = moment; fresh = fresh; input = Request octets }

-- `holds` says which hall a store has
module _ {S : Type 0} (g : Ghosts S) (store : S) (origin : Origin) where
  -- the store has a hall to which this history leads
  pub record HasHistory (items : List Item) : Type 0 where
    pub end : Hall
    pub held : g.holds store end
    pub headline : Headline origin items end

  module _ (past : List Item) (site : Site) (octets : List ℕ) (moment : ℕ) (fresh : List ℕ) (before : List ℕ) where
    -- the history with this answer to the request
    abbrev pub HasAnswered : Answer → Type 0
    HasAnswered a = HasHistory (past ++ exchanged site (requested octets moment fresh) a ∷ [])

    -- a request was served: it is the last of the history, and its answer was written, or the first octets of it; unless its reads
    -- failed
    abbrev pub HasServed : Served → Option (List ℕ) → Type 0
    HasServed Answered after = (a : Answer) × (after ≡ Some (before ++ octets_of a)) × HasAnswered a
    HasServed ReadFailed after = (after ≡ Some before) × HasHistory past
    HasServed (WriteFailed n) after = (a : Answer) × (n < length (octets_of a)) × (after ≡ Some (before ++ take n (octets_of a))) × HasAnswered a

  -- the history as it was, or with some request that came at this moment, with these fresh octets, and its answer
  abbrev pub HasSomeRequest : List Item → Site → ℕ → List ℕ → Type 0
  HasSomeRequest past site moment fresh =
      HasHistory past ⊎ ((octets : List ℕ) × (a : Answer) × HasHistory (past ++ exchanged site (requested octets moment fresh) a ∷ []))
