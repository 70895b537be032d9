-- Where each boot's row comes from that there is after a step, and which report counted at it.
use Rattle.std.{proofs.{Common.{◌≡◌, ℕ, List, sym, ap, ◌∙◌, inl, inr}, lemmas.Option.none-some}, specs.Prelude.{Some, true, false, not, ◌==◌}}
use Rattle.hall_types.specs.Rows.{at, put}
use Rattle.hall_events.specs.declared.event.Event.TheVariants as event
use Rattle.boot_desk.specs.Fetch.{booted}
use Rattle.hall_laws.{specs.{Prelude.{Hall, stage_after, at-put-same, put_cases, where_found, Boot, RowWrite, Progress, Machine, Content, counted, Event, new_boot, some_is}, Step.Step, HallLaws.boots_first, Writes.{CauseOf, First, IsIssuing, IsReported, boot_first, is_command, nothing_first, order_first}}, proofs.Effects.{Effect, StepDoes, decided, did, edits, enters, goes, idles, issues, leaves, makes, missed, notes}}

-- it is as it was, it is issued now, or it was reported now
pub data BootWas (h : Hall) (e : Event) (fresh : List ℕ) (content : Content) (g : Hall) (n : ℕ) (b : Boot) : Type 0 where
  same_boot : at h.boots n ≡ Some b → BootWas h e fresh content g n b
  issued_now : (rows : List RowWrite) (x : IsIssuing h e fresh rows) → n ≡ x.number → b ≡ new_boot x.number x.machine x.purpose fresh → g.machines ≡ put x.machine.id (booted x.number x.machine) h.machines → BootWas h e fresh content g n b
  reported_now : (m : Machine) (k : Boot) (progress : Progress) → IsReported h e content m k progress → at h.boots n ≡ Some k → b ≡ record k { stage = stage_after progress } → BootWas h e fresh content g n b

module _ (h : Hall) (e : Event) (moment : ℕ) (fresh : List ℕ) (content : Content) (g : Hall) where
  put_reported : (m : Machine) (k : Boot) (progress : Progress) → IsReported h e content m k progress → (n : ℕ) (b : Boot) → at (put k.number (record k { stage = stage_after progress }) h.boots) n ≡ Some b → BootWas h e fresh content g n b
  put_reported m k progress cause n b is = elim (put_cases h.boots k.number (record k { stage = stage_after progress }) n b is) [
    | inl w ↦ reported_now m k progress cause (ap (at h.boots) w.0 ∙ cause.recorded) w.1
    | inr w ↦ same_boot w.1
  ]

  pub boot_was : Effect h e moment fresh content g → (n : ℕ) (b : Boot) → at g.boots n ≡ Some b → BootWas h e fresh content g n b
  boot_was (leaves quiet has) n b is = same_boot (ap (λ x. at x n) (sym has.boots) ∙ is)
  boot_was (makes by m new next has) n b is = same_boot (ap (λ x. at x n) (sym has.boots) ∙ is)
  boot_was (issues rows x has) n b is = elim (put_cases h.boots x.number (new_boot x.number x.machine x.purpose fresh) n b (ap (λ x. at x n) (sym has.boots) ∙ is)) [
    | inl w ↦ issued_now rows x w.0 w.1 has.machines
    | inr w ↦ same_boot w.1
  ]
  boot_was (enters rows x has) n b is = by x.first x.cause (ap (λ x. at x n) (sym has.boots) ∙ is)
    where
      by : (first : First) → CauseOf h e moment content x.machine x.entering x.signal first → at (boots_first first h.boots) n ≡ Some b → BootWas h e fresh content g n b
      by nothing_first cause there = same_boot there
      by (boot_first k progress) cause there = put_reported x.machine k progress cause.2 n b there
      by (order_first o outcome) cause there = same_boot there
  boot_was (notes rows x has) n b is = put_reported x.machine x.boot x.progress x.cause n b (ap (λ x. at x n) (sym has.boots) ∙ is)
  boot_was (idles rows x has) n b is = same_boot (ap (λ x. at x n) (sym has.boots) ∙ is)
  boot_was (edits command rows x has) n b is = same_boot (ap (λ x. at x n) (sym has.boots) ∙ is)
  boot_was (goes command id deletes has) n b is = same_boot (where_found (λ (x : Boot). not (x.machine == id)) h.boots n b (ap (λ x. at x n) (sym has.boots) ∙ is)).0

-- ---- a report that counted

-- the boot and its machine, before and after
pub record Counted (h : Hall) (e : Event) (content : Content) (g : Hall) : Type 0 where
  pub machine : Machine
  pub boot : Boot
  pub progress : Progress
  pub found : at h.machines machine.id ≡ Some machine
  pub cause : IsReported h e content machine boot progress
  pub after : at g.boots boot.number ≡ Some (record boot { stage = stage_after progress })

no_report : (e : Event) (number : ℕ) (token : List ℕ) (progress : Progress) → e ≡ event.Report number token progress → is_command e ≡ true → ⊥
no_report e number token progress is command = let t : false ≡ true = sym (ap is_command is) ∙ command in cc

module _ (h : Hall) (e : Event) (moment : ℕ) (fresh : List ℕ) (content : Content) (g : Hall) (number : ℕ) (token : List ℕ) (progress : Progress) (is : e ≡ event.Report number token progress) (counts : content ≡ counted) where
  counted_effect : Effect h e moment fresh content g → Counted h e content g
  counted_effect (leaves quiet has) = absurd (no_report e number token progress is (quiet counts))
  counted_effect (makes (inl by) m new next has) = let apart = sym by.2 ∙ is in cc
  counted_effect (makes (inr by) m new next has) = let apart = sym by.6 ∙ is in cc
  counted_effect (issues rows x has) = let apart = sym x.event_is ∙ is in cc
  counted_effect (enters rows x has) = by x.first x.cause has.boots
    where
      by : (first : First) → CauseOf h e moment content x.machine x.entering x.signal first → g.boots ≡ boots_first first h.boots → Counted h e content g
      by nothing_first (inl cause) same = let apart = sym cause.event_is ∙ is in cc
      by nothing_first (inr (own, inl cause)) same = let apart = sym cause.event_is ∙ is in cc
      by nothing_first (inr (own, inr cause)) same = let apart = sym cause.event_is ∙ is in cc
      by (boot_first b p) cause same = record {
        machine = x.machine;
        boot = b;
        progress = p;
        found = x.found;
        cause = cause.2;
        after = ap (λ y. at y b.number) same ∙ at-put-same h.boots b.number (record b { stage = stage_after p });
      }
      by (order_first o outcome) cause same = let apart = sym cause.2.event_is ∙ is in cc
  counted_effect (notes rows x has) = record {
    machine = x.machine;
    boot = x.boot;
    progress = x.progress;
    found = x.found;
    cause = x.cause;
    after = ap (λ y. at y x.boot.number) has.boots ∙ at-put-same h.boots x.boot.number (record x.boot { stage = stage_after x.progress });
  }
  counted_effect (idles rows x has) = let apart = sym x.cause.event_is ∙ is in cc
  counted_effect (edits command rows x has) = absurd (no_report e number token progress is command)
  counted_effect (goes command id deletes has) = absurd (no_report e number token progress is command)

-- what counted is what was reported
pub record CountedAt (s : Step) (content : Content) (number : ℕ) (token : List ℕ) (its : Progress) : Type 0 where
  pub at_boot : Counted s.before s.arrival.event content s.after
  pub number_is : at_boot.boot.number ≡ number
  pub token_is : at_boot.boot.token ≡ token
  pub progress_is : at_boot.progress ≡ its

same_report : (a b : ℕ) (t u : List ℕ) (p q : Progress) → event.Report a t p ≡ event.Report b u q → (a ≡ b) × (t ≡ u) × (p ≡ q)
same_report a b t u p q e = (cc, cc, cc)

pub counted_report : (s : Step) → StepDoes s → (number : ℕ) (token : List ℕ) (its : Progress) → s.arrival.event ≡ event.Report number token its → s.answer ≡ Some counted
    → CountedAt s (decided s).content number token its
counted_report s (missed answer after) number token its is counts = absurd (none-some counted (sym answer ∙ counts))
counted_report s (did answer after writes effect) number token its is counts =
    let c = counted_effect s.before s.arrival.event s.arrival.moment s.arrival.fresh (decided s).content s.after number token its is (some_is (decided s).content counted (sym answer ∙ counts)) effect in
    let same = same_report c.boot.number number c.cause.token token c.progress its (sym c.cause.event_is ∙ is) in
    record { at_boot = c; number_is = same.0; token_is = c.cause.token_is ∙ same.1; progress_is = same.2 }
