-- Steps of the first schema beside those of the second.
use Rattle.std.{proofs.Common.{◌≡◌, Bool, true, false, List, [], ◌∷◌, refl, sym, ap, ◌∙◌, inl}, specs.Prelude.{Some, map}}
use Rattle.hall_events.specs.declared.event.Event.TheVariants.{Command}
use Rattle.hall_laws.{specs.{Prelude.{Hall, applied, Quick, OnMachine, Release, Event}, Decision.{Decided, decision_of}, Step.{Arrival, IsStep, Step}, FirstSchema.{AllKeepFull, AsksQuick, IsFirstRun, IsFirstStep, IsForgotten, KeepsFull, first_content}}, proofs.{Forgetting.{carried_again, first_row, rows_forgotten}, MachineWrites.{RowsAre, applied_are}}}

-- the step in which this came, and was decided so
abbrev pub whole_step : Hall → Arrival → Decided → Step
whole_step x a its = record { before = x; arrival = a; answer = Some its.content; after = applied its.rows x }

-- and as the first schema has it
abbrev pub first_step : Hall → Arrival → Decided → Step
first_step h a its = record { before = h; arrival = a; answer = Some (first_content its.content); after = applied (map first_row its.rows) h }

-- h is x as the first schema has it, and is carried over to it
pub record IsPair (x h : Hall) : Type 0 where
  pub full : AllKeepFull x
  pub forgotten : IsForgotten x h

pub first_is : (x h : Hall) (a : Arrival) (its : Decided) → IsPair x h → (AsksQuick a.event → ⊥) → IsStep (whole_step x a its) → IsFirstStep (first_step h a its)
first_is x h a its pair asks is = record {
  whole = whole_step x a its;
  step = is;
  carried = carried_again x h pair.full pair.forgotten;
  same = refl;
  asks = asks;
  forgets = rows_forgotten its.rows x h pair.forgotten;
  answer = refl;
}

pub next_pair : (x h : Hall) (its : Decided) → RowsAre KeepsFull its.rows → IsPair x h → IsPair (applied its.rows x) (applied (map first_row its.rows) h)
next_pair x h its are pair = record { full = applied_are KeepsFull its.rows x are pair.full; forgotten = rows_forgotten its.rows x h pair.forgotten }

-- what comes is answered by a step
pub came : (x h : Hall) (a : Arrival) → IsPair x h → (AsksQuick a.event → ⊥) → IsFirstStep (first_step h a (decision_of a.site x a.event a.moment a.fresh))
came x h a pair asks =
    first_is x h a (decision_of a.site x a.event a.moment a.fresh) pair asks (inl (record { answer = refl; after = refl }))

-- ---- runs of what came, each with what was decided of it

-- the hall after them
abbrev pub whole_end : Hall → List (Arrival × Decided) → Hall
whole_end x [] = x
whole_end x (d ∷ more) = whole_end (whole_step x d.0 d.1).after more

-- the steps of the first schema, and the hall after them
abbrev pub first_steps : Hall → List (Arrival × Decided) → List Step
first_steps h [] = []
first_steps h (d ∷ more) = first_step h d.0 d.1 ∷ first_steps (first_step h d.0 d.1).after more

abbrev pub first_end : Hall → List (Arrival × Decided) → Hall
first_end h [] = h
first_end h (d ∷ more) = first_end (first_step h d.0 d.1).after more

-- a release that erases quickly is asked for
abbrev pub asks_quick : Event → Bool
asks_quick (Command bearer key (OnMachine id version (Release (Some Quick)))) = true
asks_quick other = false

not_quick : (e : Event) → asks_quick e ≡ false → AsksQuick e → ⊥
not_quick e never asks = let both : false ≡ true = sym never ∙ ap asks_quick asks.4 in cc

-- each was decided so in the second schema, doesn't ask for quick erasing, and writes machines that keep `full`, where they keep a kind
pub data AreDecided : Hall → List (Arrival × Decided) → Type 0 where
  decided_all : {x : Hall} → AreDecided x []
  decides : {x : Hall} {d : Arrival × Decided} {more : List (Arrival × Decided)} → IsStep (whole_step x d.0 d.1) → asks_quick d.0.event ≡ false → RowsAre KeepsFull d.1.rows
      → AreDecided (whole_step x d.0 d.1).after more → AreDecided x (d ∷ more)

pub first_runs : (came : List (Arrival × Decided)) (x h : Hall) → IsPair x h → AreDecided x came
    → IsFirstRun h (first_steps h came) (first_end h came) × IsPair (whole_end x came) (first_end h came)
first_runs [] x h pair decided_all = (refl, pair)
first_runs (d ∷ more) x h pair (decides is never full are) =
    let rest = first_runs more (whole_step x d.0 d.1).after (first_step h d.0 d.1).after (next_pair x h d.1 full pair) are in
    ((refl, first_is x h d.0 d.1 pair (not_quick d.0.event never) is, rest.0), rest.1)
