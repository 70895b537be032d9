-- Why a run from a new hall of the first schema is one of the second, once its last hall is carried over.
use Rattle.std.{proofs.{Common.{◌≡◌, ℕ, List, [], ◌∷◌, ◌++◌, refl, sym, ap, subst, ◌∙◌, inl, inr}, lemmas.Option.none-some}, specs.List.AllByRecursion}
use Rattle.hall_laws.{specs.{Prelude.{Hall, new_hall, second, IsSound}, Migration.{Continues, IsMigrated}, Step.{Arrival, IsRun, IsStep, IsTyped, Step}, Laws.AreTyped, FirstSchema.{AllKeepFull, ArePlain, AsksQuick, IsFirstRun, IsForgotten, KeepsNoKind, NeverAsksQuick, NoneAsksQuick, StepKeepsFull, StepKeepsNoKind}}, proofs.{Forgetting.{carried_again, carried_only, no_kinds, no_machines}, Frame.{KeepSound, not_migrated}, Sparing.{AllSpare, all_keep_full, step_spares}, Twins.AreTwins}}

-- ---- runs

continues_on : (h next end : Hall) → Continues h next → Continues next end → Continues h end
continues_on h next end (inl same) more = subst (λ (x : Hall). Continues x end) same more
continues_on h next end (inr migrated) more = inr (subst (IsMigrated h) (sym (not_migrated next end more (ap (λ (x : Hall). x.schema) migrated.others))) migrated)

pub run_append : (steps more : List Step) (h next end : Hall) → IsRun h steps next → IsRun next more end → IsRun h (steps ++ more) end
run_append [] [] h next end run on = continues_on h next end run on
run_append [] (s ∷ more) h next end run on = (continues_on h next s.before run on.0, on.1, on.2)
run_append (s ∷ steps) more h next end run on = (run.0, run.1, run_append steps more s.after next end run.2 on)

-- what holds of each hall of a run in the second schema
pub record SparesAll (h : Hall) : Type 0 where
  pub sound : IsSound h
  pub in_second : h.schema ≡ second
  pub spare : AllSpare h

pub full_in : (h : Hall) → SparesAll h → AllKeepFull h
full_in h holds = all_keep_full h holds.sound holds.in_second holds.spare

pub new_spares : (admin digest : List ℕ) → IsSound (new_hall second admin digest) → SparesAll (new_hall second admin digest)
new_spares admin digest sound = record {
  sound = sound;
  in_second = refl;
  spare = λ id m is. absurd (none-some m (sym (no_machines second admin digest id) ∙ is));
}

-- steps of the second schema from a hall, of which these are what the first has, and the hall that they lead to
pub record IsWhole (x : Hall) (steps : List Step) (end : Hall) : Type 0 where
  pub whole : List Step
  pub last : Hall
  pub run : IsRun x whole last
  pub twins : AreTwins whole steps
  pub holds : SparesAll last
  pub forgotten : IsForgotten last end

module _ (keep : KeepSound) where
  step_holds : (s : Step) → IsStep s → NeverAsksQuick s → SparesAll s.before → SparesAll s.after
  step_holds s step asks holds =
      let next = keep s step holds.sound holds.in_second in
      record { sound = next.0; in_second = next.1; spare = step_spares s step asks holds.sound holds.spare }

  goes_on : (h next : Hall) → SparesAll h → Continues h next → SparesAll next
  goes_on h next holds on = subst SparesAll (sym (not_migrated h next on holds.in_second)) holds

  pub run_holds : (steps : List Step) (h end : Hall) → NoneAsksQuick steps → SparesAll h → IsRun h steps end → AllByRecursion StepKeepsFull steps × AllKeepFull end
  run_holds [] h end asks holds run = (tt, full_in end (goes_on h end holds run))
  run_holds (s ∷ steps) h end asks holds run =
      let here = goes_on h s.before holds run.0 in
      let after = step_holds s run.1 asks.0 here in
      let rest = run_holds steps s.after end asks.1 after run.2 in
      (((full_in s.before here, full_in s.after after), rest.0), rest.1)

  -- ---- runs of the first schema

  pub whole_of : (steps : List Step) (x h end : Hall) → SparesAll x → IsForgotten x h → IsFirstRun h steps end → IsWhole x steps end
  whole_of [] x h end holds forgotten run =
      record { whole = []; last = x; run = inl refl; twins = tt; holds = holds; forgotten = subst (IsForgotten x) (sym run) forgotten }
  whole_of (s ∷ steps) x h end holds forgotten run =
      let f = run.1 in
      let w = f.whole in
      let same : w.before ≡ x = carried_only h x w.before (carried_again x h (full_in x holds) forgotten) (subst (λ (g : Hall). IsMigrated g w.before) run.0 f.carried) in
      let asks : NeverAsksQuick w = λ quick. f.asks (subst (λ (a : Arrival). AsksQuick a.event) f.same quick) in
      let after = step_holds w f.step asks (subst SparesAll (sym same) holds) in
      let before : IsForgotten w.before s.before = subst (λ (g : Hall). IsForgotten g s.before) (sym same) (subst (IsForgotten x) (sym run.0) forgotten) in
      let rest = whole_of steps w.after s.after end after f.forgets run.2 in
      record {
        whole = w ∷ rest.whole;
        last = rest.last;
        run = (inl same, f.step, rest.run);
        twins = (
          record {
            plain = record { same = sym f.same; before = before; after = f.forgets; answer = f.answer };
            step = f.step;
            sound = (subst SparesAll (sym same) holds).sound;
            before = subst AllKeepFull (sym same) (full_in x holds);
            after = full_in w.after after;
            asks = asks;
          },
          rest.twins,
        );
        holds = rest.holds;
        forgotten = rest.forgotten;
      }

-- the last hall is carried over to that of the whole run
pub next_is : (x end next : Hall) (steps : List Step) (w : IsWhole x steps end) → IsMigrated end next → w.last ≡ next
next_is x end next steps w migrated = sym (carried_only end w.last next (carried_again w.last end (full_in w.last w.holds) w.forgotten) migrated)

-- ---- what comes is of its type in both

pub typed_whole : (whole steps : List Step) → ArePlain whole steps → AreTyped steps → AreTyped whole
typed_whole [] [] plain typed = tt
typed_whole (w ∷ whole) (s ∷ steps) plain typed =
    (subst (λ (a : Arrival). IsTyped a.site a.event a.fresh) plain.0.same typed.0, typed_whole whole steps plain.1 typed.1)
typed_whole whole steps plain typed = absurd plain

pub typed_append : (steps more : List Step) → AreTyped steps → AreTyped more → AreTyped (steps ++ more)
typed_append [] more typed also = also
typed_append (s ∷ steps) more typed also = (typed.0, typed_append steps more typed.1 also)

-- ---- no hall of the first schema keeps a kind

pub first_keeps_none : (steps : List Step) (h end : Hall) → KeepsNoKind h → IsFirstRun h steps end → AllByRecursion StepKeepsNoKind steps × KeepsNoKind end
first_keeps_none [] h end none run = (tt, subst KeepsNoKind (sym run) none)
first_keeps_none (s ∷ steps) h end none run =
    let after = no_kinds run.1.whole.after s.after run.1.forgets in
    let rest = first_keeps_none steps s.after end after run.2 in
    (((subst KeepsNoKind (sym run.0) none, after), rest.0), rest.1)
