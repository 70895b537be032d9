-- Each boot is reported started at most once, before all else, and has at most one verdict.
use Rattle.std.{proofs.{Common.{◌≡◌, ◌+◌, ◌≤◌, ℕ, List, [], ◌∷◌, ◌++◌, refl, sym, ap, subst, ◌∙◌, inl, inr, arith}, lemmas.Bool.both_ways}, specs.Prelude.{Some, Bool, true, false, is_some}}
use Rattle.hall_types.specs.Rows.{at}
use Rattle.hall_types.specs.declared.kinds.Progress.TheVariants as report
use Rattle.hall_types.specs.declared.kinds.Stage.TheVariants as stage
use Rattle.boot_desk.specs.EntryLaws.{next_is}
use Rattle.hall_laws.{specs.{Prelude.{Hall, stage_after, Boot, Progress, Stage, is_offered, Takes, IsSound, some_is}, Step.{IsStep, Step}, Laws.{CountsAny, CountsStartedFirst, CountsVerdict, CountsVerdictOnce}, Past.{CountsReport, SomeOf}}, proofs.{BootRows.{BootWas, CountedAt, boot_was, counted_report, issued_now, reported_now, same_boot}, Effects.{StepDoes, decided, did, missed, step_does}, Frame.{none_from, some_of_more}, NumbersOnceLemmas.boot_grows}}

-- the boot is done or failed
abbrev is_verdict : Stage → Bool
is_verdict stage.Done = true
is_verdict stage.Failed = true
is_verdict other = false

-- ---- what the stages take

no_offer : (p : Progress) → is_offered (stage_after p) ≡ false
no_offer report.Started = refl
no_offer other = refl

takes_started : (its : Stage) → Takes its report.Started → is_offered its ≡ true
takes_started stage.Offered t = refl
takes_started other t = absurd t

takes_open : (its : Stage) (p : Progress) → Takes its p → is_verdict its ≡ false
takes_open stage.Done p t = absurd t
takes_open stage.Failed p t = absurd t
takes_open other p t = refl

-- ---- the invariant

-- a boot of which a report counted isn't offered, and is done or failed where this was a verdict; its number was issued
pub record KnowsCounts (past : List Step) (h : Hall) : Type 0 where
  pub any : (n : ℕ) → SomeOf (CountsAny n) past → (b : Boot) → at h.boots n ≡ Some b → is_offered b.stage ≡ false
  pub verdict : (n : ℕ) → SomeOf (CountsVerdict n) past → (b : Boot) → at h.boots n ≡ Some b → is_verdict b.stage ≡ true
  pub issued : (n : ℕ) → SomeOf (CountsAny n) past → n ≤ h.last.boot

verdict_any : (n : ℕ) (past : List Step) → SomeOf (CountsVerdict n) past → SomeOf (CountsAny n) past
verdict_any n [] some = some
verdict_any n (s ∷ past) (inl (inl done)) = inl (report.Done, done)
verdict_any n (s ∷ past) (inl (inr failed)) = inl (report.Failed, failed)
verdict_any n (s ∷ past) (inr rest) = inr (verdict_any n past rest)

module _ (past : List Step) (s : Step) (sound : IsSound s.before) (old : KnowsCounts past s.before) where
  -- a boot whose number was issued is none that is issued now
  not_issued : (n number : ℕ) → n ≡ number → number ≡ s.before.last.boot + 1 → SomeOf (CountsAny n) past → ⊥
  not_issued n number same next some = omega (arith, same, next, old.issued n some)

  -- what the past says of a boot holds of it after the step
  any_stays : StepDoes s → (n : ℕ) → SomeOf (CountsAny n) past → (b : Boot) → at s.after.boots n ≡ Some b → is_offered b.stage ≡ false
  any_stays (missed answer after) n some b is = old.any n some b (ap (λ (h : Hall). at h.boots n) (sym after) ∙ is)
  any_stays (did answer after writes effect) n some b is = by (boot_was s.before s.arrival.event s.arrival.moment s.arrival.fresh (decided s).content s.after effect n b is)
    where
      by : BootWas s.before s.arrival.event s.arrival.fresh (decided s).content s.after n b → is_offered b.stage ≡ false
      by (same_boot there) = old.any n some b there
      by (issued_now rows x number its machines) = absurd (not_issued n x.number number (next_is s.before.last.boot x.number x.next) some)
      by (reported_now m k p cause there its) = ap (λ (y : Boot). is_offered y.stage) its ∙ no_offer p

  verdict_stays : StepDoes s → (n : ℕ) → SomeOf (CountsVerdict n) past → (b : Boot) → at s.after.boots n ≡ Some b → is_verdict b.stage ≡ true
  verdict_stays (missed answer after) n some b is = old.verdict n some b (ap (λ (h : Hall). at h.boots n) (sym after) ∙ is)
  verdict_stays (did answer after writes effect) n some b is = by (boot_was s.before s.arrival.event s.arrival.moment s.arrival.fresh (decided s).content s.after effect n b is)
    where
      by : BootWas s.before s.arrival.event s.arrival.fresh (decided s).content s.after n b → is_verdict b.stage ≡ true
      by (same_boot there) = old.verdict n some b there
      by (issued_now rows x number its machines) = absurd (not_issued n x.number number (next_is s.before.last.boot x.number x.next) (verdict_any n past some))
      by (reported_now m k p cause there its) = absurd (both_ways (is_verdict k.stage) (takes_open k.stage p cause.takes) (old.verdict n some k there))

  module _ (does : StepDoes s) where
    -- the boot of which a report counts now
    reported : (n : ℕ) (p : Progress) → (c : CountsReport n p s) → CountedAt s (decided s).content n c.0 p
    reported n p c = counted_report s does n c.0 p c.1.event c.1.answer

    row_now : (n : ℕ) (p : Progress) → CountsReport n p s → (b : Boot) → at s.after.boots n ≡ Some b → b.stage ≡ stage_after p
    row_now n p c b is =
        let r = reported n p c in
        ap (λ (y : Boot). y.stage) (some_is b (record r.at_boot.boot { stage = stage_after r.at_boot.progress }) (sym is ∙ (ap (at s.after.boots) (sym r.number_is) ∙ r.at_boot.after)))
        ∙ ap stage_after r.progress_is

    any_now : (n : ℕ) → CountsAny n s → (b : Boot) → at s.after.boots n ≡ Some b → is_offered b.stage ≡ false
    any_now n c b is = ap is_offered (row_now n c.0 c.1 b is) ∙ no_offer c.0

    verdict_now : (n : ℕ) → CountsVerdict n s → (b : Boot) → at s.after.boots n ≡ Some b → is_verdict b.stage ≡ true
    verdict_now n (inl c) b is = ap is_verdict (row_now n report.Done c b is)
    verdict_now n (inr c) b is = ap is_verdict (row_now n report.Failed c b is)

    issued_then : IsSound s.after → (n : ℕ) → CountsAny n s → n ≤ s.after.last.boot
    issued_then later n c = let r = reported n c.0 c.1 in later.last_boot n (ap (λ o. is_some o) (ap (at s.after.boots) (sym r.number_is) ∙ r.at_boot.after))

pub counts_step : (past : List Step) (s : Step) → IsStep s → IsSound s.before → IsSound s.after → KnowsCounts past s.before → KnowsCounts (past ++ (s ∷ [])) s.after
counts_step past s step sound later old =
    let does = step_does s step sound in
    record {
      any = λ n some b is. elim (some_of_more (CountsAny n) past s some) [ inl was ↦ any_stays past s sound old does n was b is | inr now ↦ any_now past s sound old does n now b is ];
      verdict = λ n some b is. elim (some_of_more (CountsVerdict n) past s some) [ inl was ↦ verdict_stays past s sound old does n was b is | inr now ↦ verdict_now past s sound old does n now b is ];
      issued = λ n some. elim (some_of_more (CountsAny n) past s some) [ inl was ↦ boot_grows s does n (old.issued n was) | inr now ↦ issued_then past s sound old does later n now ];
    }

pub started_first : (past : List Step) (s : Step) → IsStep s → IsSound s.before → KnowsCounts past s.before → CountsStartedFirst past s
started_first past s step sound old n c =
    let r = reported past s sound old (step_does s step sound) n report.Started c in
    let b = r.at_boot.boot in
    let there : at s.before.boots n ≡ Some b = ap (at s.before.boots) (sym r.number_is) ∙ r.at_boot.cause.recorded in
    let offered = takes_started b.stage (subst (Takes b.stage) r.progress_is r.at_boot.cause.takes) in
    none_from (CountsAny n) past (λ some. both_ways (is_offered b.stage) (old.any n some b there) offered)

verdict_first : (past : List Step) (s : Step) → IsStep s → IsSound s.before → KnowsCounts past s.before → (n : ℕ) (p : Progress) → CountsReport n p s → SomeOf (CountsVerdict n) past → ⊥
verdict_first past s step sound old n p c some =
    let r = reported past s sound old (step_does s step sound) n p c in
    let b = r.at_boot.boot in
    let there : at s.before.boots n ≡ Some b = ap (at s.before.boots) (sym r.number_is) ∙ r.at_boot.cause.recorded in
    both_ways (is_verdict b.stage) (takes_open b.stage r.at_boot.progress r.at_boot.cause.takes) (old.verdict n some b there)

pub verdict_once : (past : List Step) (s : Step) → IsStep s → IsSound s.before → KnowsCounts past s.before → CountsVerdictOnce past s
verdict_once past s step sound old n (inl c) = none_from (CountsVerdict n) past (verdict_first past s step sound old n report.Done c)
verdict_once past s step sound old n (inr c) = none_from (CountsVerdict n) past (verdict_first past s step sound old n report.Failed c)

pub new_counts : (h : Hall) → KnowsCounts [] h
new_counts h = record { any = λ n none b is. absurd none; verdict = λ n none b is. absurd none; issued = λ n none. absurd none }
