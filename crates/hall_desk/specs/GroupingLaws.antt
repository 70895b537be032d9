-- What arrivals that come together are as a run.
use Rattle.std.{proofs.Common.{◌≡◌, ℕ, List, [], ◌∷◌, inl, inr, refl, subst}, specs.{Prelude.{map}}}
use Rattle.hall_desk.specs.{Prelude.{Site, Hall, IsSound, Ghosts}, Grouping.{HasGroupRun, HasNoRun}, History.{AreUnanswered, IsCutRun, Item, exchanges}, Octets.{IsArrivalRun, IsGiven, IsSilent, missed_answer}, RunLaws.of_run, Stops.{HasRun, IsCutEnd}, declared.arrival.{Answer.Answer, Arrival.Arrival, Input.{Input, TheVariants.Request}}}

-- each arrival is answered as one that counts as not having come
abbrev pub missed_answers : List Arrival → List Answer
missed_answers arrivals = map (λ arrival. missed_answer arrival.input) arrivals

-- all exchanges of a run are the first ones
cut_all : (site : Site) (h : Hall) (xs : List Arrival) (is : List Answer) (end : Hall) → IsArrivalRun site h xs is end → IsCutRun site xs is (exchanges site xs is)
cut_all site h [] [] end run = tt
cut_all site h (x ∷ xs) (a ∷ is) end run = inr (refl, cut_all site run.0 xs is end run.2)
cut_all site h xs is end run = absurd run

cut_unanswered : (site : Site) (xs : List Arrival) (came : List Item) → AreUnanswered site xs came → IsCutRun site xs (missed_answers xs) came
cut_unanswered site xs [] it = tt
cut_unanswered site [] (item ∷ items) it = absurd it
cut_unanswered site (x ∷ xs) (item ∷ items) it = inl it

missed_run : (site : Site) (h : Hall) (xs : List Arrival) → IsArrivalRun site h xs (missed_answers xs) h
missed_run site h [] = refl
missed_run site h (x ∷ xs) = (h, inr (record { answer = refl; same = refl }), missed_run site h xs)

-- a request that counts as not having come wasn't given an answer
none_given : (site : Site) (h : Hall) (what : Input) (moment : ℕ) (fresh octets : List ℕ) → what ≡ Request octets → ¬ IsGiven site h what moment fresh (missed_answer what)
none_given site h what moment fresh octets is (inl given) = given refl
none_given site h what moment fresh octets is (inr silent) = subst (λ (it : Input). IsSilent site h it moment fresh) is silent

module _ {S : Type 0} (g : Ghosts S) (old new : S) (site : Site) (h : Hall) where
  nothing_came : (arrivals : List Arrival) (answers : List Answer) → IsCutEnd site h arrivals answers h
  nothing_came arrivals answers = ([], tt, refl)

  -- a group that was committed
  pub run_of_group : (arrivals : List Arrival) (answers : List Answer) → HasGroupRun g old new site h arrivals answers → HasRun g old new site h arrivals answers
  run_of_group arrivals answers it = record {
    ran = it.ran;
    settled = λ left all. it.settled;
    stop = λ hs left. (
      it.ran.end ∷ h ∷ [],
      it.stop hs left,
      (
        (exchanges site arrivals answers, cut_all site h arrivals answers it.ran.end it.ran.run, of_run site h arrivals answers it.ran.end it.ran.run),
        (nothing_came arrivals answers, tt),
      ),
    );
  }

  -- a group that wasn't, whose first arrival is a request
  pub run_of_none : IsSound h → (x : Arrival) (xs : List Arrival) (octets : List ℕ) → x.input ≡ Request octets → HasNoRun g old new site h (x ∷ xs)
      → HasRun g old new site h (x ∷ xs) (missed_answers (x ∷ xs))
  run_of_none sound x xs octets is it = record {
    ran = record { end = h; run = missed_run site h (x ∷ xs); held = it.held; sound = sound };
    settled = λ left all. absurd (none_given site h x.input x.moment x.fresh octets is all.0);
    stop = λ hs left. (
      it.end ∷ h ∷ [],
      it.stop hs left,
      (
        (it.together.0, cut_unanswered site (x ∷ xs) it.together.0 it.together.1, it.together.2),
        (nothing_came (x ∷ xs) (missed_answers (x ∷ xs)), tt),
      ),
    );
  }
