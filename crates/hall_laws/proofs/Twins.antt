-- Pasts of which the first steps are of the first schema, beside those of the second.
use Rattle.std.{proofs.Common.{◌≡◌, ◌⊎◌, List, [], ◌∷◌, ◌++◌, refl, sym, ap, subst, inl, inr}, specs.Prelude.⊤}
use Rattle.hall_laws.{specs.{Step.Step, Past.{Last, NoneOf, SomeOf}, FirstSchema.{ArePlain, NeverAsksQuick}}, proofs.PlainSteps.IsTwin}

-- ---- steps of the first schema

abbrev pub AreTwins : List Step → List Step → Type 0
AreTwins [] [] = ⊤
AreTwins (w ∷ whole) (s ∷ steps) = IsTwin w s × AreTwins whole steps
AreTwins whole steps = ⊥

pub twins_plain : (whole steps : List Step) → AreTwins whole steps → ArePlain whole steps
twins_plain [] [] t = tt
twins_plain (w ∷ whole) (s ∷ steps) t = (t.0.plain, twins_plain whole steps t.1)
twins_plain whole steps t = absurd t

-- the twins of a step and of the steps before it
pub record HasTwins (whole past : List Step) (s : Step) : Type 0 where
  pub past_whole : List Step
  pub step_whole : Step
  pub later_whole : List Step
  pub are : whole ≡ past_whole ++ (step_whole ∷ later_whole)
  pub past_twins : AreTwins past_whole past
  pub step_twin : IsTwin step_whole s

pub twins_of : (whole past : List Step) (s : Step) (later : List Step) → AreTwins whole (past ++ (s ∷ later)) → HasTwins whole past s
twins_of [] [] s later t = absurd t
twins_of (w ∷ whole) [] s later t = record { past_whole = []; step_whole = w; later_whole = whole; are = refl; past_twins = tt; step_twin = t.0 }
twins_of [] (p ∷ past) s later t = absurd t
twins_of (w ∷ whole) (p ∷ past) s later t =
    let rest = twins_of whole past s later t.1 in
    record {
      past_whole = w ∷ rest.past_whole;
      step_whole = rest.step_whole;
      later_whole = rest.later_whole;
      are = ap (λ (steps : List Step). w ∷ steps) rest.are;
      past_twins = (t.0, rest.past_twins);
      step_twin = rest.step_twin;
    }

pub asks_at : (earlier : List Step) (w : Step) (later steps : List Step) → AreTwins (earlier ++ (w ∷ later)) steps → NeverAsksQuick w
asks_at [] w later (s ∷ steps) t = t.0.asks
asks_at (e ∷ earlier) w later (s ∷ steps) t = asks_at earlier w later steps t.1
asks_at earlier w later steps t = absurd t

-- ---- steps of the first schema, and then some of the second

-- s is w, or w as the first schema has it
abbrev pub IsLike : Step → Step → Type 0
IsLike w s = IsTwin w s ⊎ (w ≡ s)

abbrev pub AreLike : List Step → List Step → Type 0
AreLike [] [] = ⊤
AreLike (w ∷ whole) (s ∷ steps) = IsLike w s × AreLike whole steps
AreLike whole steps = ⊥

like_itself : (steps : List Step) → AreLike steps steps
like_itself [] = tt
like_itself (s ∷ steps) = (inr refl, like_itself steps)

pub twins_like : (whole steps : List Step) → AreTwins whole steps → AreLike whole steps
twins_like [] [] t = tt
twins_like (w ∷ whole) (s ∷ steps) t = (inl t.0, twins_like whole steps t.1)
twins_like whole steps t = absurd t

-- the same steps may come afterwards
pub like_append : (whole steps more : List Step) → AreLike whole steps → AreLike (whole ++ more) (steps ++ more)
like_append [] [] more like = like_itself more
like_append (w ∷ whole) (s ∷ steps) more like = (like.0, like_append whole steps more like.1)
like_append whole steps more like = absurd like

-- ---- what holds of a step of the second schema holds of its twin

module _ (P : Step → Type 0) (to : (w s : Step) → IsTwin w s → P w → P s) where
  pub like_to : (w s : Step) → IsLike w s → P w → P s
  like_to w s (inl twin) p = to w s twin p
  like_to w s (inr same) p = subst P same p

  pub some_to : (whole steps : List Step) → AreLike whole steps → SomeOf P whole → SomeOf P steps
  some_to [] steps like some = absurd some
  some_to (w ∷ whole) [] like some = absurd like
  some_to (w ∷ whole) (s ∷ steps) like (inl p) = inl (like_to w s like.0 p)
  some_to (w ∷ whole) (s ∷ steps) like (inr some) = inr (some_to whole steps like.1 some)

-- ---- and the other way round

module _ (P : Step → Type 0) (back : (w s : Step) → IsTwin w s → P s → P w) where
  like_back : (w s : Step) → IsLike w s → P s → P w
  like_back w s (inl twin) p = back w s twin p
  like_back w s (inr same) p = subst P (sym same) p

  pub some_back : (whole steps : List Step) → AreLike whole steps → SomeOf P steps → SomeOf P whole
  some_back [] [] like some = absurd some
  some_back [] (s ∷ steps) like some = absurd like
  some_back (w ∷ whole) [] like some = absurd some
  some_back (w ∷ whole) (s ∷ steps) like (inl p) = inl (like_back w s like.0 p)
  some_back (w ∷ whole) (s ∷ steps) like (inr some) = inr (some_back whole steps like.1 some)

  pub none_like : (whole steps : List Step) → AreLike whole steps → NoneOf P whole → NoneOf P steps
  none_like [] [] like none = tt
  none_like (w ∷ whole) (s ∷ steps) like none = (λ p. none.0 (like_back w s like.0 p), none_like whole steps like.1 none.1)
  none_like whole steps like none = absurd like

-- ---- the last step that is one

module _ (P : Step → Type 0) (to : (w s : Step) → IsTwin w s → P w → P s) (back : (w s : Step) → IsTwin w s → P s → P w) where
  -- it is like this one, and so are the steps after it
  pub record HasLast (step : Step) (later past : List Step) : Type 0 where
    pub last : Last P past
    pub like : IsLike step last.step
    pub later_like : AreLike later last.later

  last_at : (earlier : List Step) (w : Step) (later past : List Step) → AreLike (earlier ++ (w ∷ later)) past → P w → NoneOf P later → HasLast w later past
  last_at [] w later (s ∷ past) like is none = record {
    last = record { earlier = []; step = s; later = past; are = refl; is = like_to P to w s like.0 is; none_later = none_like P back later past like.1 none };
    like = like.0;
    later_like = like.1;
  }
  last_at (e ∷ earlier) w later (p ∷ past) like is none =
      let rest = last_at earlier w later past like.1 is none in
      record {
        last = record {
          earlier = p ∷ rest.last.earlier;
          step = rest.last.step;
          later = rest.last.later;
          are = ap (λ (steps : List Step). p ∷ steps) rest.last.are;
          is = rest.last.is;
          none_later = rest.last.none_later;
        };
        like = rest.like;
        later_like = rest.later_like;
      }
  last_at earlier w later past like is none = absurd like

  pub last_like : (whole past : List Step) → AreLike whole past → (l : Last P whole) → HasLast l.step l.later past
  last_like whole past like l = last_at l.earlier l.step l.later past (subst (λ (steps : List Step). AreLike steps past) l.are like) l.is l.none_later
