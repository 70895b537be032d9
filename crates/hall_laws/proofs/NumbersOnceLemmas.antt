-- No number is issued twice.
use Rattle.std.{proofs.{Common.{◌≡◌, ◌≤◌, ◌+◌, ℕ, List, [], ◌∷◌, ◌++◌, sym, ap, ◌∙◌, inl, inr, arith}, lemmas.Option.none-some}, specs.Prelude.{Option, Some, None, is_some}}
use Rattle.hall_types.specs.Rows.{at}
use Rattle.boot_desk.specs.EntryLaws.{next_is}
use Rattle.hall_laws.{specs.{Prelude.{Hall, Numbers, Content, Event, IsSound}, Step.{IsStep, Step}, Laws.{MakesBoot, MakesMachine, MakesOrder, NumbersOnce}, Past.SomeOf}, proofs.{BootRows.{BootWas, boot_was, issued_now, reported_now, same_boot}, Effects.{Effect, StepDoes, decided, did, edits, enters, goes, idles, issues, leaves, makes, missed, notes, step_does}, Enterings.{last_boot_same, last_machine_same, last_order_grows}, Frame.{none_from, some_of_more}, MachineRows.{MachineWas, has_entered, machine_was, was_made, was_settled}, OrderRows.{OrderNow, order_now, queued_order, same_order, settled_order}}}

-- ---- the last numbers grow

record Grow (h g : Hall) : Type 0 where
  machine : h.last.machine ≤ g.last.machine
  boot : h.last.boot ≤ g.last.boot
  order : h.last.order ≤ g.last.order

grow_by : (h g : Hall) (last : Numbers) → g.last ≡ last → h.last.machine ≤ last.machine → h.last.boot ≤ last.boot → h.last.order ≤ last.order → Grow h g
grow_by h g last is a b c = record {
  machine = omega (arith, a, ap (λ (n : Numbers). n.machine) is);
  boot = omega (arith, b, ap (λ (n : Numbers). n.boot) is);
  order = omega (arith, c, ap (λ (n : Numbers). n.order) is);
}

le_same : (n : ℕ) → n ≤ n
le_same n = omega arith

le_next : (last n : ℕ) → n ≡ last + 1 → last ≤ n
le_next last n is = omega (arith, is)

le_is : (a b : ℕ) → b ≡ a → a ≤ b
le_is a b is = omega (arith, is)

effect_grows : (h : Hall) (e : Event) (moment : ℕ) (fresh : List ℕ) (content : Content) (g : Hall) → Effect h e moment fresh content g → Grow h g
effect_grows h e moment fresh content g (leaves quiet has) = grow_by h g _ has.last (le_same _) (le_same _) (le_same _)
effect_grows h e moment fresh content g (makes event m new next has) = grow_by h g _ has.last (le_next h.last.machine m.id (next_is h.last.machine m.id next)) (le_same _) (le_same _)
effect_grows h e moment fresh content g (issues rows x has) = grow_by h g _ has.last (le_same _) (le_next h.last.boot x.number (next_is h.last.boot x.number x.next)) (le_same _)
effect_grows h e moment fresh content g (enters rows x has) =
    grow_by h g _ has.last (le_is _ _ (last_machine_same h e moment rows content x)) (le_is _ _ (last_boot_same h e moment rows content x)) (last_order_grows h e moment rows content x)
effect_grows h e moment fresh content g (notes rows x has) = grow_by h g _ has.last (le_same _) (le_same _) (le_same _)
effect_grows h e moment fresh content g (idles rows x has) = grow_by h g _ has.last (le_same _) (le_same _) (le_same _)
effect_grows h e moment fresh content g (edits command rows x has) = grow_by h g _ has.last (le_same _) (le_same _) (le_same _)
effect_grows h e moment fresh content g (goes command id deletes has) = grow_by h g _ has.last (le_same _) (le_same _) (le_same _)

-- ---- steps

-- what was made is not above the last numbers
pub record IsGivenOut (past : List Step) (h : Hall) : Type 0 where
  pub machines : (id : ℕ) → SomeOf (MakesMachine id) past → id ≤ h.last.machine
  pub boots : (n : ℕ) → SomeOf (MakesBoot n) past → n ≤ h.last.boot
  pub orders : (n : ℕ) → SomeOf (MakesOrder n) past → n ≤ h.last.order

step_grows : (s : Step) → StepDoes s → Grow s.before s.after
step_grows s (did answer after writes effect) = effect_grows s.before _ _ _ _ s.after effect
step_grows s (missed answer after) = record {
  machine = le_is _ _ (ap (λ (h : Hall). h.last.machine) after);
  boot = le_is _ _ (ap (λ (h : Hall). h.last.boot) after);
  order = le_is _ _ (ap (λ (h : Hall). h.last.order) after);
}

le_more : (n a b : ℕ) → n ≤ a → a ≤ b → n ≤ b
le_more n a b p q = omega (arith, p, q)

pub given_step : (past : List Step) (s : Step) → IsStep s → IsSound s.before → IsSound s.after → IsGivenOut past s.before → IsGivenOut (past ++ (s ∷ [])) s.after
given_step past s is sound later old =
    let grows = step_grows s (step_does s is sound) in
    record {
      machines = λ id some. elim (some_of_more (MakesMachine id) past s some) [ inl was ↦ le_more _ _ _ (old.machines id was) grows.machine | inr now ↦ later.last_machine id (ap (λ o. is_some o) now.2) ];
      boots = λ n some. elim (some_of_more (MakesBoot n) past s some) [ inl was ↦ le_more _ _ _ (old.boots n was) grows.boot | inr now ↦ later.last_boot n (ap (λ o. is_some o) now.2) ];
      orders = λ n some. elim (some_of_more (MakesOrder n) past s some) [ inl was ↦ le_more _ _ _ (old.orders n was) grows.order | inr now ↦ later.last_order n (ap (λ o. is_some o) now.2) ];
    }

-- ---- a new row has a number above the last one

-- a row that is there afterwards and wasn't before is there after no step that missed
missed_none : {X : Type 0} (s : Step) (row_in : Hall → Option X) (x : X) → s.after ≡ s.before → row_in s.before ≡ None → row_in s.after ≡ Some x → ⊥
missed_none s row_in x same none is = none-some x (sym none ∙ (ap row_in (sym same) ∙ is))

module _ (s : Step) (sound : IsSound s.before) where
  machine_new : StepDoes s → (id : ℕ) → MakesMachine id s → id ≤ s.before.last.machine → ⊥
  machine_new (missed answer after) id made le = missed_none s (λ h. at h.machines id) made.0 after made.1 made.2
  machine_new (did answer after writes effect) id made le =
      by (machine_was s.before sound s.arrival.event s.arrival.moment s.arrival.fresh (decided s).content id made.0 s.after effect made.2)
    where
      by : MachineWas s.before s.arrival.event s.arrival.moment (decided s).content id made.0 → ⊥
      by (was_settled k was settled) = none-some k (sym made.1 ∙ was)
      by (was_made event none new above) = omega (arith, le, above)
      by (has_entered rows x same its) = none-some x.machine (sym made.1 ∙ (ap (at s.before.machines) same ∙ x.found))

  boot_new : StepDoes s → (n : ℕ) → MakesBoot n s → n ≤ s.before.last.boot → ⊥
  boot_new (missed answer after) n made le = missed_none s (λ h. at h.boots n) made.0 after made.1 made.2
  boot_new (did answer after writes effect) n made le =
      by (boot_was s.before s.arrival.event s.arrival.moment s.arrival.fresh (decided s).content s.after effect n made.0 made.2)
    where
      by : BootWas s.before s.arrival.event s.arrival.fresh (decided s).content s.after n made.0 → ⊥
      by (same_boot was) = none-some made.0 (sym made.1 ∙ was)
      by (issued_now rows x number its machines) = omega (arith, le, number, next_is s.before.last.boot x.number x.next)
      by (reported_now m k progress cause was its) = none-some k (sym made.1 ∙ was)

  order_new : StepDoes s → (n : ℕ) → MakesOrder n s → n ≤ s.before.last.order → ⊥
  order_new (missed answer after) n made le = missed_none s (λ h. at h.orders n) made.0 after made.1 made.2
  order_new (did answer after writes effect) n made le =
      by (order_now s.before sound s.arrival.event s.arrival.moment s.arrival.fresh (decided s).content s.after effect n made.0 made.2)
    where
      by : OrderNow s.before s.arrival.event s.arrival.moment (decided s).content s.after n made.0 → ⊥
      by (same_order was) = none-some made.0 (sym made.1 ∙ was)
      by (queued_order rows x q queue above its machines) = omega (arith, le, above)
      by (settled_order k was fails) = none-some k (sym made.1 ∙ was)

pub numbers_once : (past : List Step) (s : Step) → IsStep s → IsSound s.before → IsGivenOut past s.before → NumbersOnce past s
numbers_once past s is sound old =
    let does = step_does s is sound in
    record {
      machines = λ id made. none_from (MakesMachine id) past (λ some. machine_new s sound does id made (old.machines id some));
      boots = λ n made. none_from (MakesBoot n) past (λ some. boot_new s sound does n made (old.boots n some));
      orders = λ n made. none_from (MakesOrder n) past (λ some. order_new s sound does n made (old.orders n some));
    }

pub new_given : (h : Hall) → IsGivenOut [] h
new_given h = record { machines = λ id none. absurd none; boots = λ n none. absurd none; orders = λ n none. absurd none }

-- a number of a boot that was issued is one after each step
pub boot_grows : (s : Step) → StepDoes s → (n : ℕ) → n ≤ s.before.last.boot → n ≤ s.after.last.boot
boot_grows s does n le = le_more n _ _ le (step_grows s does).boot

-- so is one of an order
pub order_grows : (s : Step) → StepDoes s → (n : ℕ) → n ≤ s.before.last.order → n ≤ s.after.last.order
order_grows s does n le = le_more n _ _ le (step_grows s does).order
