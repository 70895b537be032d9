-- Laws of the moment before which no machine expires, for the proofs of stores.
use Rattle.std.{specs.Prelude.{◌≡◌, ◌≤◌, ◌<◌, ℕ, Bool, true, false, List, [], ◌∷◌, Option, Some, None, filter, if◌then◌else◌}, proofs.{Common.{refl, arith, ◌∙◌, ap, sym, subst, inl, inr}, lemmas.Bool.{both_ways, cases_lt, Decides.nat_tests}}}
use Rattle.hall_types.specs.{Rows.{Rows, numbers, gone, listed, put}, RowLaws.{gone_found, put_cases}, Hall.Hall, Keyed.StandUnder, Lookup.{is_due, next_expired, sooner, soonest, if_due}, LookupLaws.{next_expired-is, next_expired-none}, declared.machine.Machine.Machine}
use Rattle.hall_store.specs.Expiry.{HasNoEarlier, IsEarliest}

-- ---- the machines that are due are those of all that are

soonest_more : (b : Bool) (m : Machine) (ms : List Machine) → soonest (if b then m ∷ ms else ms) ≡ (if b then Some (sooner m (soonest ms)) else soonest ms)
soonest_more true m ms = refl
soonest_more false m ms = refl

due_of : (moment : ℕ) (m : Machine) (r : Option Machine) → if_due moment (Some (sooner m r)) ≡ (if is_due moment m then Some (sooner m (if_due moment r)) else if_due moment r)
due_of moment m None = grind (arith, nat_tests)
due_of moment m (Some other) = grind (arith, nat_tests)

-- the next machine to expire is the first with the least deadline of all, if that one is due
pub soonest_due : (moment : ℕ) (ms : List Machine) → soonest (filter (is_due moment) ms) ≡ if_due moment (soonest ms)
soonest_due moment [] = refl
soonest_due moment (m ∷ ms) =
    soonest_more (is_due moment m) m (filter (is_due moment) ms) ∙ ap (λ r. if is_due moment m then Some (sooner m r) else r) (soonest_due moment ms) ∙ sym (due_of moment m (soonest ms))

due_before : (moment late : ℕ) → moment ≤ late → (o : Option Machine) → if_due moment (if_due late o) ≡ if_due moment o
due_before moment late before None = refl
due_before moment late before (Some m) = grind (arith, nat_tests)

-- and the first that expires at a later moment, if that one is
pub first_due : (h : Hall) (moment late : ℕ) → moment ≤ late → if_due moment (next_expired h late) ≡ next_expired h moment
first_due h moment late before =
    ap (if_due moment) (soonest_due late (listed h.machines)) ∙ due_before moment late before (soonest (listed h.machines)) ∙ sym (soonest_due moment (listed h.machines))

-- ---- the moment that is known

not_due : (earliest moment : ℕ) (m : Machine) → moment < earliest → HasNoEarlier earliest m → is_due moment m ≡ true → ⊥
not_due earliest moment m early none due = grind (arith, nat_tests)

-- before it none expires
pub none_due : (h : Hall) (earliest moment : ℕ) → StandUnder (λ m. m.id) h.machines → IsEarliest earliest h.machines → moment < earliest → None ≡ next_expired h moment
none_due h earliest moment under is early = by (next_expired h moment) refl
  where
    by : (o : Option Machine) → next_expired h moment ≡ o → None ≡ o
    by None e = refl
    by (Some m) e =
        let it = next_expired-is h under moment m e in
        absurd (not_due earliest moment m early (is m.id m it.recorded) it.due)

itself : (moment : ℕ) (m : Machine) → m.deadline ≡ Some moment → is_due moment m ≡ true
itself moment m has = grind (arith, nat_tests)

-- and where none expires before it, no deadline is earlier
pub earliest_is : (h : Hall) (earliest : ℕ) → ((moment : ℕ) → moment < earliest → next_expired h moment ≡ None) → IsEarliest earliest h.machines
earliest_is h earliest none id m there deadline has = elim (cases_lt deadline earliest) [
  | inl low ↦ absurd (both_ways (is_due deadline m) (next_expired-none h deadline id m (none deadline low) there) (itself deadline m has))
  | inr high ↦ high
]

le_trans : {a b c : ℕ} → a ≤ b → b ≤ c → a ≤ c
le_trans p q = omega arith

pub lower_none : (lower earliest : ℕ) (m : Machine) → lower ≤ earliest → HasNoEarlier earliest m → HasNoEarlier lower m
lower_none lower earliest m low is deadline has = le_trans low (is deadline has)

module _ (earliest : ℕ) (machines : Rows numbers Machine) (is : IsEarliest earliest machines) where
  pub lower_earliest : (lower : ℕ) → lower ≤ earliest → IsEarliest lower machines
  lower_earliest lower low id m there = lower_none lower earliest m low (is id m there)

  pub put_earliest : (m : Machine) → HasNoEarlier earliest m → IsEarliest earliest (put m.id m machines)
  put_earliest m own id other there = elim (put_cases machines m.id m id other there) [
    | inl new ↦ subst (HasNoEarlier earliest) (sym new.1) own
    | inr old ↦ is id other old.1
  ]

  pub gone_earliest : (key : ℕ) → IsEarliest earliest (gone key machines)
  gone_earliest key id m there = is id m (gone_found machines key id m there).1
