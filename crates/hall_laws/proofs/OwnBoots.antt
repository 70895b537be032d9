-- A machine's current boot is its own boot, so a report that counts is of its machine's own boot.
use Rattle.std.{proofs.{Common.{◌≡◌, ◌≤◌, ℕ, List, [], ◌∷◌, ◌++◌, refl, sym, ap, subst, ◌∙◌, inl, inr, arith}, lemmas.Option.none-some}, specs.Prelude.{Option, Some, None, is_some}}
use Rattle.hall_types.specs.Rows.{at, put}
use Rattle.life_cycle.specs.Entering.{boot_after}
use Rattle.boot_desk.specs.{EntryLaws.next_is, Fetch.booted}
use Rattle.hall_laws.{specs.{Prelude.{Hall, new_hall, second, at-put-same, gone_found, put_cases, Boot, Machine, Status, EnteringRescue, Rescue, Content, new_boot, idle, IsSound, some_is, row_at}, Step.{IsStep, Step}, Laws.CountsOwnBoot, Past.{IsIssue, IsOtherEntry, IsOwnBoot, IssuesFor}}, proofs.{BootRows.{BootWas, boot_was, counted_report, issued_now, reported_now, same_boot}, Effects.{Effect, StepDoes, decided, did, edits, enters, goes, idles, issues, leaves, makes, missed, notes, step_does}, Enterings.{new_boot_is, new_id, new_status}, Forgetting.no_machines, Frame.{last_kept, last_new, none_append}, MachineRows.no_entry}}

-- the boot with this number is the machine's own boot, and its row has the token that was issued
pub record Own (past : List Step) (h : Hall) (id n : ℕ) : Type 0 where
  pub boot : Boot
  pub number : boot.number ≡ n
  pub machine : boot.machine ≡ id
  pub own : IsOwnBoot id boot past
  pub token : (k : Boot) → at h.boots n ≡ Some k → k.token ≡ boot.token

pub record OwnsBoots (past : List Step) (h : Hall) : Type 0 where
  pub owns : (id n : ℕ) (m : Machine) → at h.machines id ≡ Some m → m.boot ≡ Some n → Own past h id n

-- a boot that is kept at an entry is kept into Rescue
kept_boot : (from to : Status) (boot : Option ℕ) (n : ℕ) → boot_after from to boot ≡ Some n → (from ≡ EnteringRescue) × (to ≡ Rescue) × (boot ≡ Some n)
unfolding boot_after
kept_boot EnteringRescue Rescue boot n is = (refl, refl, is)
kept_boot from to boot n is = cc

-- the current boot's number was issued
current_issued : (h : Hall) → IsSound h → (id n : ℕ) (m : Machine) → at h.machines id ≡ Some m → m.boot ≡ Some n → n ≤ h.last.boot
current_issued h s id n m there current =
    let b = (s.machines id m there).boot n current in
    s.last_boot n (ap (λ o. is_some o) (ap (row_at h.boots) (sym current) ∙ b.1))

module _ (past : List Step) (s : Step) (sound : IsSound s.before) (old : OwnsBoots past s.before) where
  -- it goes on being the own boot where no boot is issued for the machine, and there is no other entry
  goes_on : (id n : ℕ) → Own past s.before id n → (IssuesFor id s → ⊥) → (IsOtherEntry id s → ⊥) → ((b : Boot) → at s.after.boots n ≡ Some b → (k : Boot) × (at s.before.boots n ≡ Some k) × (b.token ≡ k.token)) → Own (past ++ (s ∷ [])) s.after id n
  goes_on id n o no_issue no_entry tokens = record {
    boot = o.boot;
    number = o.number;
    machine = o.machine;
    own = record { issue = last_kept (IssuesFor id) past s no_issue o.own.issue; is = o.own.is; since = none_append (IsOtherEntry id) o.own.issue.later (s ∷ []) o.own.since (no_entry, tt) };
    token = λ b is. let k = tokens b is in k.2 ∙ o.token k.0 k.1;
  }

  module _ (content : Content) (effect : Effect s.before s.arrival.event s.arrival.moment s.arrival.fresh content s.after) (id n : ℕ) (k m : Machine) (was : at s.before.machines id ≡ Some k) (is : at s.after.machines id ≡ Some m) (current : k.boot ≡ Some n) (still : m.boot ≡ Some n) where
    boot_of : (number : ℕ) (b : Boot) → at s.after.boots number ≡ Some b → BootWas s.before s.arrival.event s.arrival.fresh content s.after number b
    boot_of = boot_was s.before s.arrival.event s.arrival.moment s.arrival.fresh content s.after effect

    few : n ≤ s.before.last.boot
    few = current_issued s.before sound id n k was current

    quiet : IssuesFor id s → ⊥
    quiet i = by (boot_of i.0.number i.0 i.1.after)
      where
        by : BootWas s.before s.arrival.event s.arrival.fresh content s.after i.0.number i.0 → ⊥
        by (same_boot there) = none-some i.0 (sym i.1.before ∙ there)
        by (reported_now x b p cause there its) = none-some b (sym i.1.before ∙ there)
        by (issued_now rows x number its machines) =
            let own : x.machine.id ≡ id = sym (ap (λ (b : Boot). b.machine) its) ∙ i.1.machine in
            let row : at s.after.machines id ≡ Some (booted x.number x.machine) = ap (at s.after.machines) (sym own) ∙ (ap (λ y. at y x.machine.id) machines ∙ at-put-same s.before.machines x.machine.id (booted x.number x.machine)) in
            let same : m ≡ booted x.number x.machine = some_is m (booted x.number x.machine) (sym is ∙ row) in
            omega (arith, few, some_is n x.number (sym still ∙ ap (λ (y : Machine). y.boot) same), next_is s.before.last.boot x.number x.next)

    tokens : (b : Boot) → at s.after.boots n ≡ Some b → (y : Boot) × (at s.before.boots n ≡ Some y) × (b.token ≡ y.token)
    tokens b there = by (boot_of n b there)
      where
        by : BootWas s.before s.arrival.event s.arrival.fresh content s.after n b → (y : Boot) × (at s.before.boots n ≡ Some y) × (b.token ≡ y.token)
        by (same_boot same) = (b, same, refl)
        by (reported_now x y p cause same its) = (y, same, ap (λ (z : Boot). z.token) its)
        by (issued_now rows x number its machines) = absurd (omega (arith, few, number, next_is s.before.last.boot x.number x.next))

    -- a machine whose status stays keeps its own boot
    own_stays : m.status ≡ k.status → Own (past ++ (s ∷ [])) s.after id n
    own_stays same = goes_on id n (old.owns id n k was current) quiet (λ e. no_entry s id k m was is same e.0) tokens

    -- so does one that enters Rescue from Entering rescue
    own_rescued : k.status ≡ EnteringRescue → m.status ≡ Rescue → Own (past ++ (s ∷ [])) s.after id n
    own_rescued from to = goes_on id n (old.owns id n k was current) quiet (λ e. e.1 (k, m, was, is, from, to)) tokens

  own_after : (content : Content) (effect : Effect s.before s.arrival.event s.arrival.moment s.arrival.fresh content s.after) → (id n : ℕ) (m : Machine) → at s.after.machines id ≡ Some m → m.boot ≡ Some n → Own (past ++ (s ∷ [])) s.after id n
  own_after content effect id n m is current = by effect
    where
      -- a row that is as it was
      same : at s.before.machines id ≡ Some m → Own (past ++ (s ∷ [])) s.after id n
      same was = own_stays content effect id n m m was is current current refl

      -- a row whose status and boot are as they were
      put_same : (own : ℕ) (k x : Machine) → at s.before.machines own ≡ Some k → x.status ≡ k.status → x.boot ≡ k.boot → at (put own x s.before.machines) id ≡ Some m → Own (past ++ (s ∷ [])) s.after id n
      put_same own k x found status boot there = elim (put_cases s.before.machines own x id m there) [
        | inl w ↦ own_stays content effect id n k m (ap (at s.before.machines) w.0 ∙ found) is (sym boot ∙ (ap (λ (y : Machine). y.boot) (sym w.1) ∙ current)) current (ap (λ (y : Machine). y.status) w.1 ∙ status)
        | inr w ↦ same w.1
      ]

      by : Effect s.before s.arrival.event s.arrival.moment s.arrival.fresh content s.after → Own (past ++ (s ∷ [])) s.after id n
      by (leaves quiet has) = same (ap (λ x. at x id) (sym has.machines) ∙ is)
      by (makes event new shape next has) = elim (put_cases s.before.machines new.id new id m (ap (λ x. at x id) (sym has.machines) ∙ is)) [
        | inl w ↦ absurd (none-some n (sym (ap (λ (y : Machine). y.boot) (w.1 ∙ shape)) ∙ current))
        | inr w ↦ same w.1
      ]
      by (issues rows x has) = elim (put_cases s.before.machines x.machine.id (booted x.number x.machine) id m (ap (λ x. at x id) (sym has.machines) ∙ is)) [
        | inl w ↦ now (sym w.0) (some_is x.number n (ap (λ (y : Machine). y.boot) (sym w.1) ∙ current))
        | inr w ↦ same w.1
      ]
        where
          b : Boot
          b = new_boot x.number x.machine x.purpose s.arrival.fresh

          none : (o : Option Boot) → at s.before.boots x.number ≡ o → o ≡ None
          none None there = refl
          none (Some k) there = absurd (omega (arith, sound.last_boot x.number (ap (λ o. is_some o) there), next_is s.before.last.boot x.number x.next))

          here : at s.after.boots x.number ≡ Some b
          here = ap (λ y. at y x.number) has.boots ∙ at-put-same s.before.boots x.number b

          now : x.machine.id ≡ id → x.number ≡ n → Own (past ++ (s ∷ [])) s.after id n
          now own number =
              let issue : IsIssue id b s = record { mac = x.mac; asked = x.event_is; before = none (at s.before.boots x.number) refl; after = here; machine = own } in
              record {
                boot = b;
                number = number;
                machine = own;
                own = record { issue = last_new (IssuesFor id) past s (b, issue); is = issue; since = tt };
                token = λ k there. ap (λ (y : Boot). y.token) (some_is k b (sym there ∙ (ap (at s.after.boots) (sym number) ∙ here)));
              }
      by (enters rows x has) = elim (put_cases s.before.machines x.new.machine.id x.new.machine id m (ap (λ x. at x id) (sym has.machines) ∙ is)) [
        | inl w ↦ into w.0 w.1 (kept_boot x.machine.status x.step.status x.machine.boot n (sym (new_boot_is s.before s.arrival.event s.arrival.moment rows content x) ∙ (ap (λ (y : Machine). y.boot) (sym w.1) ∙ current)))
        | inr w ↦ same w.1
      ]
        where
          into : id ≡ x.new.machine.id → m ≡ x.new.machine → (x.machine.status ≡ EnteringRescue) × (x.step.status ≡ Rescue) × (x.machine.boot ≡ Some n) → Own (past ++ (s ∷ [])) s.after id n
          into own its rescue =
              own_rescued content effect id n x.machine m (ap (at s.before.machines) (own ∙ new_id s.before s.arrival.event s.arrival.moment rows content x) ∙ x.found) is rescue.2 current rescue.0
              (ap (λ (y : Machine). y.status) its ∙ (new_status s.before s.arrival.event s.arrival.moment rows content x ∙ rescue.1))
      by (notes rows x has) = same (ap (λ x. at x id) (sym has.machines) ∙ is)
      by (idles rows x has) = put_same x.machine.id x.machine (idle x.machine) x.found refl refl (ap (λ x. at x id) (sym has.machines) ∙ is)
      by (edits command rows x has) =
          put_same x.after.id x.machine x.after (ap (at s.before.machines) (ap (λ (y : Machine). y.id) x.same) ∙ x.found) (ap (λ (y : Machine). y.status) x.same) (ap (λ (y : Machine). y.boot) x.same) (ap (λ x. at x id) (sym has.machines) ∙ is)
      by (goes command other deletes has) = same (gone_found s.before.machines other id m (ap (λ x. at x id) (sym has.machines) ∙ is)).1

  own_later : StepDoes s → (id n : ℕ) (m : Machine) → at s.after.machines id ≡ Some m → m.boot ≡ Some n → Own (past ++ (s ∷ [])) s.after id n
  own_later (did answer after writes effect) id n m is current = own_after (decided s).content effect id n m is current
  own_later (missed answer after) id n m is current =
      let was : at s.before.machines id ≡ Some m = ap (λ (h : Hall). at h.machines id) (sym after) ∙ is in
      goes_on id n (old.owns id n m was current)
      (λ i. none-some i.0 (sym i.1.before ∙ (ap (λ (h : Hall). at h.boots i.0.number) (sym after) ∙ i.1.after)))
      (λ e. no_entry s id m m was is refl e.0)
      (λ b there. (b, ap (λ (h : Hall). at h.boots n) (sym after) ∙ there, refl))

pub owns_step : (past : List Step) (s : Step) → IsStep s → IsSound s.before → IsSound s.after → OwnsBoots past s.before → OwnsBoots (past ++ (s ∷ [])) s.after
owns_step past s step sound later old = record { owns = own_later past s sound old (step_does s step sound) }

pub counts_own : (past : List Step) (s : Step) → IsStep s → IsSound s.before → OwnsBoots past s.before → CountsOwnBoot past s
counts_own past s step sound old number token progress was =
    let c = counted_report s (step_does s step sound) number token progress was.event was.answer in
    let b = c.at_boot.boot in
    let o = old.owns c.at_boot.machine.id b.number c.at_boot.machine c.at_boot.found c.at_boot.cause.current in
    (o.boot, o.number ∙ c.number_is, sym (o.token b c.at_boot.cause.recorded) ∙ c.token_is, subst (λ i. IsOwnBoot i o.boot past) (sym o.machine) o.own)

pub new_owns : (admin digest : List ℕ) → OwnsBoots [] (new_hall second admin digest)
new_owns admin digest = record { owns = λ id n m is. absurd (none-some m (sym (no_machines second admin digest id) ∙ is)) }
