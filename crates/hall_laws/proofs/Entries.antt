-- Each entry of a machine is its making, or a row of the table.
use Rattle.std.{proofs.Common.{◌≡◌, ◌⊎◌, ℕ, List, refl, sym, ap, ◌∙◌, inl, inr}, specs.Prelude.Some}
use Rattle.hall_types.specs.Rows.{at}
use Rattle.hall_laws.{specs.{Prelude.{Hall, RowWrite, Machine, Content, counted, IsSound}, Step.{IsStep, Step}, Writes.{CauseOf, First, IsEntering, boot_first, nothing_first, order_first}, Laws.{EntersByTable, IsMade, IsSignalled, TakesRow, by_answer, by_command, by_deadline, by_fourth_boot, by_report}}, proofs.{Commanded.accepts, Effects.{StepDoes, decided, did, missed, step_does}, Enterings.new_status, MachineRows.{MachineWas, has_entered, machine_was, was_made, was_settled}}}

-- the row that an entry took
pub row_taken : (s : Step) → IsStep s → IsSound s.before → (rows : List RowWrite) (content : Content) (x : IsEntering s.before s.arrival.event s.arrival.moment rows content) (id : ℕ) (m : Machine)
    → id ≡ x.machine.id → m ≡ x.new.machine → at s.after.machines id ≡ Some m → s.answer ≡ Some content → (takes : TakesRow id s) × (takes.to ≡ x.step)
row_taken s step sound rows content x id m same its is answer = (
  record {
    machine = x.machine;
    after = m;
    signal = x.signal;
    to = x.step;
    before_is = ap (at s.before.machines) same ∙ x.found;
    after_is = is;
    row = x.leads;
    status = ap (λ (y : Machine). y.status) its ∙ new_status s.before s.arrival.event s.arrival.moment rows content x;
    signalled = by x.first x.cause;
  },
  refl,
)
  where
    counts : content ≡ counted → s.answer ≡ Some counted
    counts says = answer ∙ ap (λ (c : Content). Some c) says

    by : (first : First) → CauseOf s.before s.arrival.event s.arrival.moment content x.machine x.entering x.signal first → IsSignalled id x.machine s x.signal
    by nothing_first (inl c) = by_command (record {
      operator = c.operator.name;
      key = c.key;
      version = c.version;
      command = c.command;
      action = c.action;
      content = content;
      accepted = accepts s step sound s.arrival.moment rows content x id m same its is answer c;
      acts = c.acts;
      signal_is = c.signal_is;
    })
    by nothing_first (inr (own, inl c)) = by_deadline (record { quiet = c.event_is; due = c.due; signal_is = c.signal_is })
    by nothing_first (inr (own, inr c)) = by_fourth_boot (record {
      mac = c.mac;
      asks = record { interface = c.interface; recorded = c.recorded; found = ap (at s.before.machines) c.its ∙ x.found };
      not_offered = c.not_offered;
      held = record { event = c.event_is; answer = answer ∙ ap (λ (y : Content). Some y) c.answer };
      fourth = c.fourth;
      signal_is = c.signal_is;
    })
    by (boot_first b progress) c = by_report (record {
      boot = b;
      progress = progress;
      counts = (c.2.token, record { event = c.2.event_is; answer = counts c.2.answer });
      recorded = c.2.recorded;
      its = c.2.its ∙ sym same;
      signal_is = c.1;
    })
    by (order_first o outcome) c = by_answer (record {
      order = o;
      outcome = outcome;
      counts = (c.2.bearer, record { event = c.2.event_is; answer = counts c.2.answer });
      recorded = c.2.recorded;
      its = c.2.its ∙ sym same;
      signal_is = c.1;
    })

pub enters_by_table : (past : List Step) (s : Step) → IsStep s → IsSound s.before → EntersByTable past s
enters_by_table past s step sound id entry = by (step_does s step sound)
  where
    m : Machine
    m = entry.0

    by_row : (content : Content) → s.answer ≡ Some content → MachineWas s.before s.arrival.event s.arrival.moment content id m → IsMade id s ⊎ TakesRow id s
    by_row content answer (was_settled k was settled) = absurd (entry.2 k was (sym settled.status))
    by_row content answer (was_made event none new above) = inl (none, event)
    by_row content answer (has_entered rows x same its) = inr (row_taken s step sound rows content x id m same its entry.1 answer).0

    by : StepDoes s → IsMade id s ⊎ TakesRow id s
    by (missed answer after) = absurd (entry.2 m (ap (λ (h : Hall). at h.machines id) (sym after) ∙ entry.1) refl)
    by (did answer after writes effect) =
        by_row (decided s).content answer (machine_was s.before sound s.arrival.event s.arrival.moment s.arrival.fresh (decided s).content id m s.after effect entry.1)
