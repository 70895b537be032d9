-- Laws of the past from an invariant: what holds of the past and the hall is kept by each step, and gives the law at each step.
use Rattle.std.{proofs.Common.{◌≡◌, ◌⊎◌, ℕ, List, [], ◌∷◌, ◌++◌, refl, sym, ap, subst, ◌∙◌, inl, inr, append_assoc, append-nil}, specs.List.AllByRecursion}
use Rattle.hall_laws.specs.{Prelude.{Hall, first, new_hall, second, IsSound}, Migration.Continues, Step.{IsRun, IsStep, Step}, Laws.Always, Past.{AtEachStep, Last, NoneOf, SomeOf}}

-- ---- steps of a past

pub none_append : (P : Step → Type 0) (xs ys : List Step) → NoneOf P xs → NoneOf P ys → NoneOf P (xs ++ ys)
none_append P [] ys a b = b
none_append P (x ∷ xs) ys a b = (a.0, none_append P xs ys a.1 b)

-- none, where some would be absurd
pub none_from : (P : Step → Type 0) (xs : List Step) → (SomeOf P xs → ⊥) → NoneOf P xs
none_from P [] never = tt
none_from P (x ∷ xs) never = (λ p. never (inl p), none_from P xs (λ q. never (inr q)))

pub some_of_more : (P : Step → Type 0) (xs : List Step) (s : Step) → SomeOf P (xs ++ (s ∷ [])) → SomeOf P xs ⊎ P s
some_of_more P [] s (inl p) = inr p
some_of_more P [] s (inr q) = inl q
some_of_more P (x ∷ xs) s (inl p) = inl (inl p)
some_of_more P (x ∷ xs) s (inr q) = elim (some_of_more P xs s q) [ inl w ↦ inl (inr w) | inr w ↦ inr w ]

pub some_before : (P : Step → Type 0) (xs : List Step) (s : Step) → SomeOf P xs → SomeOf P (xs ++ (s ∷ []))
some_before P [] s none = absurd none
some_before P (x ∷ xs) s (inl p) = inl p
some_before P (x ∷ xs) s (inr q) = inr (some_before P xs s q)

pub some_now : (P : Step → Type 0) (xs : List Step) (s : Step) → P s → SomeOf P (xs ++ (s ∷ []))
some_now P [] s p = inl p
some_now P (x ∷ xs) s p = inr (some_now P xs s p)

-- a step that is one is the last one
abbrev pub last_new : (P : Step → Type 0) (past : List Step) (s : Step) → P s → Last P (past ++ (s ∷ []))
last_new P past s is = record { earlier = past; step = s; later = []; are = refl; is = is; none_later = tt }

-- after a step that is none the last one is the same
abbrev pub last_kept : (P : Step → Type 0) (past : List Step) (s : Step) → (P s → ⊥) → Last P past → Last P (past ++ (s ∷ []))
last_kept P past s not_so l = record {
  earlier = l.earlier;
  step = l.step;
  later = l.later ++ (s ∷ []);
  are = ap (λ xs. xs ++ (s ∷ [])) l.are ∙ append_assoc l.earlier (l.step ∷ l.later) (s ∷ []);
  is = l.is;
  none_later = none_append P l.later (s ∷ []) l.none_later (not_so, tt);
}

-- ---- runs

-- sound halls of the second schema stay so at each step
abbrev pub KeepSound : Type 0
KeepSound = (s : Step) → IsStep s → IsSound s.before → s.before.schema ≡ second → IsSound s.after × (s.after.schema ≡ second)

-- a hall of the second schema isn't migrated
pub not_migrated : (h next : Hall) → Continues h next → h.schema ≡ second → next ≡ h
not_migrated h next (inl same) in_second = same
not_migrated h next (inr migrated) in_second = absurd (let apart : first ≡ second = sym migrated.was ∙ in_second in cc)

pub run_split : (past later : List Step) (s : Step) (h end : Hall) → IsRun h (past ++ (s ∷ later)) end → IsRun h past s.before × IsStep s
run_split [] later s h end run = (run.0, run.1)
run_split (x ∷ past) later s h end run = let rest = run_split past later s x.after end run.2 in ((run.0, run.1, rest.0), rest.1)

-- An invariant of the past and the hall, which each step keeps. Every hall is sound, and the steps are as a premise says.
module _ (keep : KeepSound) (Given : Step → Type 0) (I : List Step → Hall → Type 0)
    (keeps : (past : List Step) (s : Step) → Given s → IsStep s → IsSound s.before → IsSound s.after → I past s.before → I (past ++ (s ∷ [])) s.after) where
  record Holds (past : List Step) (h : Hall) : Type 0 where
    sound : IsSound h
    in_second : h.schema ≡ second
    holds : I past h

  goes_on : (past : List Step) (h next : Hall) → Holds past h → Continues h next → Holds past next
  goes_on past h next start on = subst (Holds past) (sym (not_migrated h next on start.in_second)) start

  all_split : (past later : List Step) (s : Step) → AllByRecursion Given (past ++ (s ∷ later)) → AllByRecursion Given past × Given s
  all_split [] later s all = (tt, all.0)
  all_split (x ∷ past) later s all = let rest = all_split past later s all.1 in ((all.0, rest.0), rest.1)

  run_holds : (past steps : List Step) (h end : Hall) → AllByRecursion Given steps → Holds past h → IsRun h steps end → Holds (past ++ steps) end
  run_holds past [] h end given start run = subst (λ xs. Holds xs end) (sym (append-nil past)) (goes_on past h end start run)
  run_holds past (s ∷ steps) h end given start run =
      let here = goes_on past h s.before start run.0 in
      let next = keep s run.1 here.sound here.in_second in
      subst (λ xs. Holds xs end) (append_assoc past (s ∷ []) steps)
      (run_holds (past ++ (s ∷ [])) steps s.after end given.1
      (record { sound = next.0; in_second = next.1; holds = keeps past s given.0 run.1 here.sound next.0 here.holds }) run.2)

  at_each : (P : List Step → Step → Type 0) → ((past : List Step) (s : Step) → Given s → IsStep s → IsSound s.before → I past s.before → P past s)
      → (steps : List Step) (h end : Hall) → AllByRecursion Given steps → IsSound h → h.schema ≡ second → I [] h → IsRun h steps end → AtEachStep P steps
  at_each P gives steps h end given sound in_second start run past s later are =
      let parts = run_split past later s h end (subst (λ xs. IsRun h xs end) are run) in
      let all = all_split past later s (subst (AllByRecursion Given) are given) in
      let here = run_holds [] past h s.before all.0 (record { sound = sound; in_second = in_second; holds = start }) parts.0 in
      gives past s all.1 parts.1 here.sound here.holds

  -- from a new hall
  pub from_new_given : ((admin digest : List ℕ) → IsSound (new_hall second admin digest)) → ((admin digest : List ℕ) → I [] (new_hall second admin digest))
      → (P : List Step → Step → Type 0) → ((past : List Step) (s : Step) → Given s → IsStep s → IsSound s.before → I past s.before → P past s)
      → (admin digest : List ℕ) (end : Hall) (steps : List Step) → AllByRecursion Given steps → IsRun (new_hall second admin digest) steps end → AtEachStep P steps
  from_new_given sound start P gives admin digest end steps given run =
      at_each P gives steps (new_hall second admin digest) end given (sound admin digest) refl (start admin digest) run

anything : (steps : List Step) → AllByRecursion (λ s. Unit {0}) steps
anything [] = tt
anything (s ∷ steps) = (tt, anything steps)

-- where nothing is asked of the steps
module _ (keep : KeepSound) (I : List Step → Hall → Type 0) (keeps : (past : List Step) (s : Step) → IsStep s → IsSound s.before → IsSound s.after → I past s.before → I (past ++ (s ∷ [])) s.after) where
  pub from_new : ((admin digest : List ℕ) → IsSound (new_hall second admin digest)) → ((admin digest : List ℕ) → I [] (new_hall second admin digest))
      → (P : List Step → Step → Type 0) → ((past : List Step) (s : Step) → IsStep s → IsSound s.before → I past s.before → P past s)
      → (admin digest : List ℕ) (end : Hall) (steps : List Step) → IsRun (new_hall second admin digest) steps end → AtEachStep P steps
  from_new sound start P gives admin digest end steps =
      from_new_given keep (λ s. Unit {0}) I (λ past s given. keeps past s) sound start P (λ past s given. gives past s) admin digest end steps (anything steps)

  -- from each sound hall
  pub always : ((h : Hall) → I [] h) → (P : List Step → Step → Type 0) → ((past : List Step) (s : Step) → IsStep s → IsSound s.before → I past s.before → P past s) → Always P
  always start P gives h end steps sound in_second =
      at_each keep (λ s. Unit {0}) I (λ past s given. keeps past s) P (λ past s given. gives past s) steps h end (anything steps) sound in_second (start h)

-- sound halls of the second schema stay so in each run
pub run_end : KeepSound → (h end : Hall) (steps : List Step) → IsRun h steps end → IsSound h → h.schema ≡ second → IsSound end × (end.schema ≡ second)
run_end keep h end steps run sound in_second =
    let it = run_holds keep (λ s. Unit {0}) (λ past h. Unit {0}) (λ past s given is sound later old. tt) [] steps h end (anything steps)
    (record { sound = sound; in_second = in_second; holds = tt }) run in
    (it.sound, it.in_second)

-- a law of each step by itself
pub at_step : KeepSound → (P : List Step → Step → Type 0) → ((past : List Step) (s : Step) → IsStep s → IsSound s.before → P past s) → Always P
at_step keep P gives = always keep (λ past h. Unit {0}) (λ past s is sound later old. tt) (λ h. tt) P (λ past s is sound old. gives past s is sound)
