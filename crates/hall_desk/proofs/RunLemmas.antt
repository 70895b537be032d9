-- A run goes on by one arrival.
use Rattle.std.proofs.Common.{◌≡◌, ◌<◌, ◌+◌, ◌∙◌, ℕ, List, [], ◌∷◌, ◌++◌, length, drop, drop-cons, get_or, suc, add-one, ap, inl, sym, subst}
use Rattle.hall_desk.specs.{Prelude.{Site, Hall, Ghosts}, Attempt.{ChangeNothing, IsAnswered}, RunLaws.{has_run_one, has_run_then}, Stops.{AreAnswered, AreGiven, HasRun}, declared.arrival.{Answer.Answer, Arrival.Arrival}}

pub answered_given : (site : Site) (h : Hall) (arrivals : List Arrival) (answers : List Answer) → AreAnswered arrivals answers → AreGiven site h arrivals answers
answered_given site h [] answers all = all
answered_given site h (x ∷ arrivals) [] all = absurd all
answered_given site h (x ∷ arrivals) (a ∷ answers) all = (inl all.0, λ next step. answered_given site next arrivals answers all.1)

next_arrival : (arrivals : List Arrival) (i : ℕ) (arrival : Arrival) → i < length arrivals → arrival ≡ get_or arrivals i arrival → drop i arrivals ≡ arrival ∷ drop (i + 1) arrivals
next_arrival arrivals i arrival low is = drop-cons arrivals i arrival low ∙ ap (λ y. y ∷ drop (suc i) arrivals) (sym is) ∙ ap (λ j. arrival ∷ drop j arrivals) (sym (add-one i))

module _ {S : Type 0} (g : Ghosts S) (site : Site) (from : Site) (same : from ≡ site) where
  pub ran_more : (old mid new : S) (h : Hall) (arrivals : List Arrival) (answers : List Answer) (arrival : Arrival) (a : Answer)
      → HasRun g old mid site h arrivals answers → IsAnswered g mid new from arrival.input arrival.moment arrival.fresh a
      → HasRun g old new site h (arrivals ++ arrival ∷ []) (answers ++ a ∷ [])
  ran_more old mid new h arrivals answers arrival a before it =
      has_run_then g site h old mid new arrivals (arrival ∷ []) answers (a ∷ []) before
      (has_run_one g site before.ran.end mid new arrival a (subst (λ (at : Site). IsAnswered g mid new at arrival.input arrival.moment arrival.fresh a) same it)
      before.ran.held before.ran.sound)

  -- one more arrival that changes nothing leaves the hall
  pub idle_more : (old new : S) (h : Hall) (arrivals : List Arrival) (index : ℕ) (arrival : Arrival) (a : Answer)
      → index < length arrivals → arrival ≡ get_or arrivals index arrival
      → IsAnswered g old new from arrival.input arrival.moment arrival.fresh a
      → g.holds old h × ChangeNothing site h (drop index arrivals) → g.holds new h × ChangeNothing site h (drop (index + 1) arrivals)
  idle_more old new h arrivals index arrival a low is it was =
      let here = subst (λ (at : Site). IsAnswered g old new at arrival.input arrival.moment arrival.fresh a) same it in
      let rest = subst (ChangeNothing site h) (next_arrival arrivals index arrival low is) was.1 in
      (here.idle h was.0 rest.0, rest.1)
