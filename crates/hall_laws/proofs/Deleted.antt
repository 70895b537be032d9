-- Machines stay, unless they are deleted.
use Rattle.std.proofs.{Common.{◌≡◌, ◌⊎◌, ◌∙◌, ◌==◌, ℕ, Bool, true, false, List, Some, None, inl, inr, refl, sym, ap, subst, arith}, lemmas.{Bool.Decides.nat_tests, Option.none-some}}
use Rattle.hall_types.specs.Rows.{at, numbers, put}
use Rattle.hall_events.specs.declared.command.MachineCommand.TheVariants as on
use Rattle.hall_events.specs.declared.event.Event.TheVariants as event
use Rattle.hall_laws.{specs.{Prelude.{Hall, at-gone-other, at-gone-same, at-put-other, at-put-same, Rows, gone, Machine, OnMachine, IsSound}, Step.{IsStep, Step}, Laws.{IsDeleted, KeepsMachines}}, proofs.{AnswerLemmas.was_accepted, Effects.{Effect, decided, did, edits, enters, goes, idles, issues, leaves, makes, missed, notes, step_does, StepDoes}}}

abbrev Stays : Rows numbers Machine → ℕ → Type 0
Stays machines id = (k : Machine) × (at machines id ≡ Some k)

same_or_not : (a b : ℕ) → (a ≡ b) ⊎ (a ≡ b → ⊥)
same_or_not a b = by (a == b) refl
  where
    by : (t : Bool) → (a == b) ≡ t → (a ≡ b) ⊎ (a ≡ b → ⊥)
    by true is = inl (grind (arith, nat_tests))
    by false is = inr (λ same. grind (arith, nat_tests))

-- a machine that is put leaves the others
still_there : (machines : Rows numbers Machine) (n : ℕ) (x : Machine) (id : ℕ) (m : Machine) → at machines id ≡ Some m → Stays (put n x machines) id
still_there machines n x id m there = elim (same_or_not id n) [
  | inl same ↦ (x, subst (λ k. at (put n x machines) k ≡ Some x) (sym same) (at-put-same machines n x))
  | inr apart ↦ (m, at-put-other machines n x id apart ∙ there)
]

has_still : (g : Rows numbers Machine) (machines : Rows numbers Machine) (id : ℕ) → g ≡ machines → Stays machines id → Stays g id
has_still g machines id same stays = (stays.0, ap (λ rows. at rows id) same ∙ stays.1)

pub keeps_machines : (past : List Step) (s : Step) → IsStep s → IsSound s.before → KeepsMachines past s
keeps_machines past s is sound id m there = by_does (step_does s is sound)
  where
    by_effect : s.answer ≡ Some (decided s).content → Effect s.before s.arrival.event s.arrival.moment s.arrival.fresh (decided s).content s.after → Stays s.after.machines id ⊎ IsDeleted id s
    by_effect answer (leaves quiet has) = inl (has_still s.after.machines s.before.machines id has.machines (m, there))
    by_effect answer (makes event x new next has) = inl (has_still s.after.machines _ id has.machines (still_there s.before.machines _ x id m there))
    by_effect answer (issues rows x has) = inl (has_still s.after.machines _ id has.machines (still_there s.before.machines _ _ id m there))
    by_effect answer (enters rows x has) = inl (has_still s.after.machines _ id has.machines (still_there s.before.machines _ _ id m there))
    by_effect answer (notes rows x has) = inl (has_still s.after.machines s.before.machines id has.machines (m, there))
    by_effect answer (idles rows x has) = inl (has_still s.after.machines _ id has.machines (still_there s.before.machines _ _ id m there))
    by_effect answer (edits command rows x has) = inl (has_still s.after.machines _ id has.machines (still_there s.before.machines _ _ id m there))
    by_effect answer (goes command gone_id d has) = elim (same_or_not id gone_id) [
      | inr apart ↦ inl (has_still s.after.machines (gone gone_id s.before.machines) id has.machines (m, at-gone-other s.before.machines gone_id id apart ∙ there))
      | inl same ↦
          let none : at s.after.machines id ≡ None = ap (λ rows. at rows id) has.machines ∙ subst (λ k. at (gone gone_id s.before.machines) k ≡ None) (sym same) (at-gone-same s.before.machines gone_id) in
          let moved : s.after ≡ s.before → ⊥ = λ stays. none-some m (sym none ∙ ap (λ (h : Hall). at h.machines id) stays ∙ there) in
          inr (record {
            operator = d.operator.name;
            key = d.key;
            version = d.version;
            content = (decided s).content;
            accepted = was_accepted s is d.sender_is refl (record { event = d.event_is ∙ ap (λ n. event.Command d.bearer d.key (OnMachine n d.version on.Delete)) (sym same); answer = answer }) moved;
          })
    ]

    by_does : StepDoes s → Stays s.after.machines id ⊎ IsDeleted id s
    by_does (missed answer same) = inl (m, ap (λ (h : Hall). at h.machines id) same ∙ there)
    by_does (did answer after writes effect) = by_effect answer effect
