-- Where each machine's row comes from that there is after a step.
use Rattle.std.{proofs.Common.{◌≡◌, ◌≢◌, ◌+◌, ℕ, List, refl, sym, ap, subst, ◌∙◌, inl, inr, arith}, specs.Prelude.{Option, Some, None, is_some}}
use Rattle.hall_types.specs.Rows.{at, put}
use Rattle.boot_desk.specs.{EntryLaws.next_is, Fetch.booted}
use Rattle.hall_laws.{specs.{Prelude.{Hall, gone_found, put_cases, RowWrite, Machine, blank_machine, Content, Event, idle, IsSound, some_is}, Step.Step, Writes.{IsEntering, AsksForMachine}, Past.IsEntry}, proofs.{Effects.{Effect, edits, enters, goes, idles, issues, leaves, makes, notes}, Enterings.{new_changes, new_id}}}

-- the machine's status, image and kind of erasing are as before
pub record IsSettled (k m : Machine) : Type 0 where
  pub status : m.status ≡ k.status
  pub erase : m.erase ≡ k.erase
  pub image : m.image ≡ k.image
  pub back : m.back ≡ k.back

pub data MachineWas (h : Hall) (e : Event) (moment : ℕ) (content : Content) (id : ℕ) (m : Machine) : Type 0 where
  was_settled : (k : Machine) → at h.machines id ≡ Some k → IsSettled k m → MachineWas h e moment content id m
  was_made : AsksForMachine e → at h.machines id ≡ None → m ≡ blank_machine m.id m.arch m.pool m.uuid → id ≡ h.last.machine + 1 → MachineWas h e moment content id m
  has_entered : (rows : List RowWrite) (x : IsEntering h e moment rows content) → id ≡ x.machine.id → m ≡ x.new.machine → MachineWas h e moment content id m

pub settled_same : (k m : Machine) → m ≡ k → IsSettled k m
settled_same k m is = record {
  status = ap (λ (x : Machine). x.status) is;
  erase = ap (λ (x : Machine). x.erase) is;
  image = ap (λ (x : Machine). x.image) is;
  back = ap (λ (x : Machine). x.back) is;
}

settled_as : (k x m : Machine) → IsSettled k x → m ≡ x → IsSettled k m
settled_as k x m settled is = subst (IsSettled k) (sym is) settled

none_is : {X : Type 0} (o : Option X) → ((x : X) → o ≡ Some x → ⊥) → o ≡ None
none_is None never = refl
none_is (Some x) never = absurd (never x refl)

module _ (h : Hall) (s : IsSound h) (e : Event) (moment : ℕ) (fresh : List ℕ) (content : Content) (id : ℕ) (m : Machine) where
  -- a settled row is put in the place of the machine's own
  put_settled : (own : ℕ) (k x : Machine) → at h.machines own ≡ Some k → IsSettled k x → at (put own x h.machines) id ≡ Some m → MachineWas h e moment content id m
  put_settled own k x found settled is = elim (put_cases h.machines own x id m is) [
    | inl w ↦ was_settled k (ap (at h.machines) w.0 ∙ found) (settled_as k x m settled w.1)
    | inr w ↦ was_settled m w.1 (settled_same m m refl)
  ]

  pub machine_was : (g : Hall) → Effect h e moment fresh content g → at g.machines id ≡ Some m → MachineWas h e moment content id m
  machine_was g (leaves quiet has) is = was_settled m (ap (λ x. at x id) (sym has.machines) ∙ is) (settled_same m m refl)
  machine_was g (makes event new shape next has) is = elim (put_cases h.machines new.id new id m (ap (λ x. at x id) (sym has.machines) ∙ is)) [
    | inl w ↦ was_made event (none_is (at h.machines id) (unused w.0)) (subst (λ (x : Machine). x ≡ blank_machine x.id x.arch x.pool x.uuid) (sym w.1) shape) (w.0 ∙ next_is h.last.machine new.id next)
    | inr w ↦ was_settled m w.1 (settled_same m m refl)
  ]
    where
      unused : id ≡ new.id → (x : Machine) → at h.machines id ≡ Some x → ⊥
      unused same x there = omega (arith, same, next_is h.last.machine new.id next, s.last_machine id (ap (λ o. is_some o) there))
  machine_was g (issues rows x has) is =
      put_settled x.machine.id x.machine (booted x.number x.machine) x.found (record { status = refl; erase = refl; image = refl; back = refl }) (ap (λ x. at x id) (sym has.machines) ∙ is)
  machine_was g (enters rows x has) is = elim (put_cases h.machines x.new.machine.id x.new.machine id m (ap (λ x. at x id) (sym has.machines) ∙ is)) [
    | inl w ↦ has_entered rows x (w.0 ∙ new_id h e moment rows content x) w.1
    | inr w ↦ was_settled m w.1 (settled_same m m refl)
  ]
  machine_was g (notes rows x has) is = was_settled m (ap (λ x. at x id) (sym has.machines) ∙ is) (settled_same m m refl)
  machine_was g (idles rows x has) is =
      put_settled x.machine.id x.machine (idle x.machine) x.found (record { status = refl; erase = refl; image = refl; back = refl }) (ap (λ x. at x id) (sym has.machines) ∙ is)
  machine_was g (edits command rows x has) is =
      put_settled x.after.id x.machine x.after (ap (at h.machines) (ap (λ (k : Machine). k.id) x.same) ∙ x.found)
      (record { status = ap (λ (k : Machine). k.status) x.same; erase = ap (λ (k : Machine). k.erase) x.same; image = ap (λ (k : Machine). k.image) x.same; back = ap (λ (k : Machine). k.back) x.same })
      (ap (λ x. at x id) (sym has.machines) ∙ is)
  machine_was g (goes command gone_id deletes has) is =
      was_settled m (gone_found h.machines gone_id id m (ap (λ x. at x id) (sym has.machines) ∙ is)).1 (settled_same m m refl)

-- a step that leaves the status is no entry
pub no_entry : (s : Step) (id : ℕ) (k m : Machine) → at s.before.machines id ≡ Some k → at s.after.machines id ≡ Some m → m.status ≡ k.status → IsEntry id s → ⊥
no_entry s id k m was is same e = e.2 k was (sym same ∙ ap (λ (x : Machine). x.status) (some_is m e.0 (sym is ∙ e.1)))

-- a machine that takes a step of the table has an entry
pub is_entry : (s : Step) → IsSound s.before → (e : Event) (moment : ℕ) (rows : List RowWrite) (content : Content) (x : IsEntering s.before e moment rows content) (id : ℕ) (m : Machine)
    → id ≡ x.machine.id → m ≡ x.new.machine → at s.after.machines id ≡ Some m → IsEntry id s
is_entry s sound e moment rows content x id m same its is = (
  m,
  is,
  λ k there status. new_changes s.before e moment rows content x sound
      (ap (λ (y : Machine). y.status) (sym its) ∙ (sym status ∙ ap (λ (y : Machine). y.status) (some_is k x.machine (sym there ∙ (ap (at s.before.machines) same ∙ x.found))))),
)

-- and another hall
pub is_changed : (s : Step) → IsSound s.before → (e : Event) (moment : ℕ) (rows : List RowWrite) (content : Content) (x : IsEntering s.before e moment rows content) (id : ℕ) (m : Machine)
    → id ≡ x.machine.id → m ≡ x.new.machine → at s.after.machines id ≡ Some m → s.after ≢ s.before
unfolding is_entry
is_changed s sound e moment rows content x id m same its is unchanged =
    (is_entry s sound e moment rows content x id m same its is).2 m (ap (λ (h : Hall). at h.machines id) (sym unchanged) ∙ is) refl
