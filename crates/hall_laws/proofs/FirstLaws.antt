-- Why the laws of the past hold of the steps of the first schema.
use Rattle.std.{proofs.{Common.{◌≡◌, ◌⊎◌, ◌∙◌, ℕ, Bool, true, false, List, [], ◌∷◌, ◌++◌, refl, sym, ap, subst, inl, inr, append_assoc}}, specs.Prelude.{Option, Some, None, Ok, Err, option_map, if◌then◌else◌}}
use Rattle.ipxe_script.specs.declared.command.Command.{Command}
use Rattle.hall_types.specs.Rows.{at}
use Rattle.hall_types.specs.declared.kinds.Purpose.TheVariants as purpose
use Rattle.pxe_vendor.specs.declared.arch.Arch.TheVariants as arch
use Rattle.hall_events.specs.Reply.{reply_of}
use Rattle.hall_events.specs.declared.command.MachineCommand.TheVariants as on
use Rattle.hall_events.specs.declared.event.Event.TheVariants as event
use Rattle.life_cycle.specs.{Entering.keeps_erase, Table.{Transition, leads, status_at, step_in, step_of, step_to, transitions}, declared.step.Step.Step as TableStep}
use Rattle.boot_desk.specs.Texts.{hold_script, local_script, work_script}
use Rattle.desk_command.specs.{Causes.command_view, Command.{command_decision, with_receipt}, Effect.{Effect, effect}}
use Rattle.hall_laws.{specs.{Prelude.{Arch, BootImage, Boot, Erase, Event, Full, Hall, HallCommand, OnMachine, has_hall_word, is_due, offered_boot, IsDeploying, IsScript, Machine, Operator, Signal, Content, command_cases, done, first, machine_gone, machine_is, machine_list, nothing, one_machine, row_at, script, second, spelling}, CommandLaws.{SaysDone, effect_says}, Decision.{Decided, commanded}, Refusing.IsRefusal, Step.{Arrival, Step}, Writes.{AsksForMachine, is_done}, Laws.{AcceptsOnce, AcceptsWithOk, AcceptsWithOkIn, AlwaysWaitsForOne, AnswersAccepted, AnswersAcceptedIn, BootsLocally, CountsAnswerOnce, CountsOwnBoot, CountsStartedFirst, CountsVerdictOnce, DeploysRightly, EntersByTable, GivesScripts, HasStatus, IsAnsweredAgain, IsFrame, IsVersioned, KeepsMachines, RaisesVersions, RefusesWithoutChange, SameButVersion, SameInterfaces, ScriptIsAsked, IsDeploy, IsRightlyDeployed, IsSignalled, KeyedRequest, NumbersOnce, QueuesAtEntries, RepeatsFirst, RepeatsFirstIn, TakesRow, WaitsForOne, WaitsNoMore, by_answer, by_command, by_deadline, by_fourth_boot, by_report, disabled, first_again, reused, rises, stays}, Past.{AtEachStep, IsAccepted, IsEntry, SomeOf, WasAnswered}, FirstErasing.ErasesFully, FirstLaws.KeepsFirstLaws, FirstSchema.{IsForgotten, KeepsFull, first_content, plain, without_kind}}, proofs.{AnswerLemmas.came_so, Frame.{some_before, some_now, some_of_more}, Keys.command_of, Plain.plain_work, PlainScripts.{deploying_before, script_plain}, PlainSteps.{IsAnswerOf, IsTwin, accepted_back, accepted_is_done, accepted_to, answer_of, answered_back, deploy_to, entry_back, entry_to, event_back, event_to, boot_back, machine_at, machine_back, machine_before, order_back, report_back, plain_row, same_boots, same_orders, same_sender, nothing_before, refused_before, script_of, some_back, stays_to, text_of, verdict_back, whole_row}, Scripts.HasWholeRows, Twins.{AreTwins, last_like, like_to, twins_like, twins_of}}}
use Rattle.hall_laws.proofs.Later as later

-- ---- from a run of the second schema to one of the first

-- a law of the one is a law of the other, if it is one at each step with its twin
pub at_first : (P Q : List Step → Step → Type 0) → ((whole past : List Step) → AreTwins whole past → (w s : Step) → IsTwin w s → P whole w → Q past s)
    → (whole steps : List Step) → AreTwins whole steps → AtEachStep P whole → AtEachStep Q steps
at_first P Q from whole steps twins law past s later are =
    let t = twins_of whole past s later (subst (AreTwins whole) are twins) in
    from t.past_whole past t.past_twins t.step_whole s t.step_twin (law t.past_whole t.step_whole t.later_whole t.are)

-- ---- scripts

plain_local : (a : Arch) → plain (local_script a) ≡ local_script a
unfolding local_script
plain_local arch.Bios = refl
plain_local other = refl

plain_hold : plain hold_script ≡ hold_script
unfolding hold_script
plain_hold = refl

-- ---- halls and the table

-- a hall has the interfaces that it has without kinds of erasing
same_as : (x h y g : Hall) → IsForgotten x h → IsForgotten y g → (id : ℕ) → SameInterfaces id x y → SameInterfaces id h g
same_as x h y g before after id same mac i its = (
  λ there. ap (λ (a : Hall). at a.interfaces mac) after.others ∙ (same mac i its).0 (sym (ap (λ (a : Hall). at a.interfaces mac) before.others) ∙ there),
  λ there. ap (λ (a : Hall). at a.interfaces mac) before.others ∙ (same mac i its).1 (sym (ap (λ (a : Hall). at a.interfaces mac) after.others) ∙ there),
)

same_before : (x h y g : Hall) → IsForgotten x h → IsForgotten y g → (id : ℕ) → SameInterfaces id h g → SameInterfaces id x y
same_before x h y g before after id same mac i its = (
  λ there. sym (ap (λ (a : Hall). at a.interfaces mac) after.others) ∙ (same mac i its).0 (ap (λ (a : Hall). at a.interfaces mac) before.others ∙ there),
  λ there. sym (ap (λ (a : Hall). at a.interfaces mac) before.others) ∙ (same mac i its).1 (ap (λ (a : Hall). at a.interfaces mac) after.others ∙ there),
)

-- a kind of erasing changes only with the status
row_before : (m k : Machine) → KeepsFull m → KeepsFull k → SameButVersion (without_kind m) (without_kind k) → SameButVersion m k
row_before m k m_full k_full row = ap (λ (x : Machine). record x { erase = k.erase }) row ∙ ap (λ (kind : Option Erase). record m { erase = kind }) kind
  where
    kind : k.erase ≡ m.erase
    kind = k_full ∙ (ap (λ (x : Machine). if keeps_erase x.status then Some Full else None) row ∙ sym m_full)

forgotten_none : (x h : Hall) → IsForgotten x h → (id : ℕ) → at x.machines id ≡ None → at h.machines id ≡ None
forgotten_none x h forgotten id none = forgotten.machines id ∙ ap (option_map without_kind) none

pub waits_forgotten : (x h : Hall) → IsForgotten x h → WaitsForOne x → WaitsForOne h
waits_forgotten x h forgotten waits = record {
  one = λ a b o p first second. waits.one a b o p (sym (same_orders x h forgotten a) ∙ first) (sym (same_orders x h forgotten b) ∙ second);
  deployed = λ id m is deployed n o there.
      let k = whole_row x h forgotten id m is in
      waits.deployed id k.machine k.is (sym (ap (λ (y : Machine). y.status) k.its) ∙ deployed) n o (sym (same_orders x h forgotten n) ∙ there);
}

same_step_in : (ts : List Transition) (m : Machine) (signal : Signal) → step_in ts (without_kind m) signal ≡ step_in ts m signal
same_step_in [] m signal = refl
same_step_in (t ∷ ts) m signal =
    ap (λ (rest : Option TableStep). if leads m.status m.tests signal t then step_to (status_at t.target m.back) t.order else rest) (same_step_in ts m signal)

-- the table doesn't know how disks are erased
same_step : (m : Machine) (signal : Signal) → step_of (without_kind m) signal ≡ step_of m signal
unfolding step_of
same_step m signal = same_step_in transitions m signal

-- ---- what a command is answered

-- it is the same in both schemas: neither a script nor a list of machines
abbrev is_same : Content → Bool
is_same (script commands) = false
is_same (machine_list machines) = false
is_same (one_machine listed) = false
is_same other = true

same_content : (c : Content) → is_same c ≡ true → first_content c ≡ c
same_content (script commands) is = cc
same_content (machine_list machines) is = cc
same_content (one_machine listed) is = cc
same_content other is = refl

same_reply : (c : Content) → is_same c ≡ true → reply_of first c ≡ reply_of second c
unfolding reply_of
same_reply (machine_list machines) is = cc
same_reply (one_machine listed) is = cc
same_reply other is = refl

done_same : (c : Content) → is_done c ≡ true → is_same c ≡ true
done_same (machine_is id status version) is = refl
done_same (machine_gone id) is = refl
done_same done is = refl
done_same other is = cc

command_same : (h : Hall) (bearer : Option (List ℕ)) (key : List ℕ) (command : HallCommand) (moment : ℕ) → is_same (commanded (command_decision h bearer key command moment)).content ≡ true
command_same h bearer key command moment =
    command_cases h bearer key command moment Same (λ why. refl) (λ o r sent there same. refl)
    (λ o sent enabled free none. by o (effect (command_view h o command) o command moment) (effect_says (command_view h o command) o command moment))
  where
    Same : Effect → Type 0
    Same e = is_same (commanded e).content ≡ true

    by : (o : Operator) (e : Effect) → SaysDone e → Same (with_receipt o key command e)
    by o (Ok d) says = done_same d.1 says
    by o (Err why) says = refl

again_in_first : (o : Operator) (one command : HallCommand) (content again : Content) → is_same content ≡ true → is_same again ≡ true
    → IsAnsweredAgain second o one content command again → IsAnsweredAgain first o one content command again
again_in_first o one command content again c a (disabled off is) = disabled off is
again_in_first o one command content again c a (first_again on same reply) = first_again on same (same_reply again a ∙ (reply ∙ sym (same_reply content c)))
again_in_first o one command content again c a (reused on other is) = reused on other is

-- a command that was accepted is carried out
some_done : (operator key : List ℕ) (command : HallCommand) (content : Content) (whole past : List Step) → AreTwins whole past → SomeOf (IsAccepted operator key command content) past → is_done content ≡ true
some_done operator key command content [] [] twins some = absurd some
some_done operator key command content (w ∷ whole) (s ∷ past) twins (inl now) =
    accepted_is_done w twins.0.step twins.0.sound operator key command content (accepted_back w s twins.0 operator key command content now)
some_done operator key command content (w ∷ whole) (s ∷ past) twins (inr before) = some_done operator key command content whole past twins.1 before
some_done operator key command content whole past twins some = absurd twins

twins_with : (whole past : List Step) (w s : Step) → AreTwins whole past → IsTwin w s → AreTwins (whole ++ (w ∷ [])) (past ++ (s ∷ []))
twins_with [] [] w s twins t = (t, tt)
twins_with (v ∷ whole) (p ∷ past) w s twins t = (twins.0, twins_with whole past w s twins.1 t)
twins_with whole past w s twins t = absurd twins

-- ---- each law

module _ (whole past : List Step) (twins : AreTwins whole past) (w s : Step) (t : IsTwin w s) where
  pub boots_locally : BootsLocally whole w → BootsLocally past s
  boots_locally law mac m content was asks deployed =
      let k = machine_before w.before s.before t.plain.before mac m asks in
      let a = answer_of w.answer content (sym t.plain.answer ∙ was.answer) in
      let its = law mac k.machine a.content (record { event = event_back w s t _ was.event; answer = a.is }) k.asks (sym (ap (λ (x : Machine). x.status) k.its) ∙ deployed) in (
        sym a.its ∙ (ap first_content its.0 ∙ (ap (λ (c : List Command). script c) (plain_local k.machine.arch) ∙ ap (λ (x : Machine). script (local_script x.arch)) (sym k.its))),
        stays_to w s t its.1,
      )

  pub script_is_asked : ScriptIsAsked whole w → ScriptIsAsked past s
  script_is_asked law commands is =
      let a = answer_of w.answer (script commands) (sym t.plain.answer ∙ is) in
      let o = script_of a.content commands a.its in
      let asked = law o.whole (a.is ∙ ap (λ (c : Content). Some c) o.is) in
      (asked.0, record { event = event_to w s t _ asked.1.event; answer = is })

  pub gives_scripts : GivesScripts whole w → GivesScripts past s
  gives_scripts law mac commands gives =
      let text = text_of w s t.plain mac commands gives in
      subst IsScript (sym text.its) (script_plain text.whole (law mac text.whole text.gives))

  -- ---- refusals

  pub refuses : RefusesWithoutChange whole w → RefusesWithoutChange past s
  refuses law content is cause = stays_to w s t (law a.content a.is (before cause))
    where
      a : IsAnswerOf w.answer content
      a = answer_of w.answer content (sym t.plain.answer ∙ is)

      before : IsRefusal content ⊎ (IsFrame s.arrival.event × (content ≡ nothing)) → IsRefusal a.content ⊎ (IsFrame w.arrival.event × (a.content ≡ nothing))
      before (inl refusal) = inl (refusal.0, refused_before a.content refusal.0 (a.its ∙ refusal.1))
      before (inr silence) = inr (subst (λ (x : Arrival). IsFrame x.event) t.plain.same silence.0, nothing_before a.content (a.its ∙ silence.1))

  -- ---- machines

  pub keeps_machines : KeepsMachines whole w → KeepsMachines past s
  keeps_machines law id m is =
      let row = whole_row w.before s.before t.plain.before id m is in
      elim (law id row.machine row.is) [
        | inl there ↦ inl (without_kind there.0, plain_row w.after s.after t.plain.after id there.0 there.1)
        | inr deleted ↦ inr (record {
          operator = deleted.operator;
          key = deleted.key;
          version = deleted.version;
          content = deleted.content;
          accepted = accepted_to w s t deleted.operator deleted.key (OnMachine id deleted.version on.Delete) deleted.content deleted.accepted;
        })
      ]

  pub raises_versions : RaisesVersions whole w → RaisesVersions past s
  raises_versions law id m k was is =
      let before = whole_row w.before s.before t.plain.before id m was in
      let after = whole_row w.after s.after t.plain.after id k is in
      subst (λ (x : Machine). IsVersioned id s.before s.after x k) (sym before.its)
      (subst (IsVersioned id s.before s.after (without_kind before.machine)) (sym after.its)
      (versioned_to before.machine after.machine (t.before id before.machine before.is) (t.after id after.machine after.is) (law id before.machine after.machine before.is after.is)))
    where
      versioned_to : (m k : Machine) → KeepsFull m → KeepsFull k → IsVersioned id w.before w.after m k → IsVersioned id s.before s.after (without_kind m) (without_kind k)
      versioned_to m k m_full k_full (stays row interfaces) =
          stays (ap without_kind row) (same_as w.before s.before w.after s.after t.plain.before t.plain.after id interfaces)
      versioned_to m k m_full k_full (rises version differ) =
          rises version (λ row interfaces. differ (row_before m k m_full k_full row) (same_before w.before s.before w.after s.after t.plain.before t.plain.after id interfaces))

  -- ---- counting and numbers

  pub counts_own_boot : CountsOwnBoot whole w → CountsOwnBoot past s
  counts_own_boot law number token progress counts = later.counts_own_boot whole past (twins_like whole past twins) w law number token progress (answered_back w s t _ counts)

  pub started_first : CountsStartedFirst whole w → CountsStartedFirst past s
  started_first law number counts = later.started_first whole past (twins_like whole past twins) w law number (report_back w s t number _ counts)

  pub verdict_once : CountsVerdictOnce whole w → CountsVerdictOnce past s
  verdict_once law number counts = later.verdict_once whole past (twins_like whole past twins) w law number (verdict_back w s t number counts)

  pub numbers_once : NumbersOnce whole w → NumbersOnce past s
  numbers_once law =
      let its = later.numbers_once whole past (twins_like whole past twins) w law in
      record {
        machines = λ id makes. its.machines id (machine_back w s t id makes);
        boots = λ number makes. its.boots number (boot_back w s t number makes);
        orders = λ number makes. its.orders number (order_back w s t number makes);
      }

  -- ---- entries

  answered_to : (e : Event) (c : Content) → WasAnswered w e c → WasAnswered s e (first_content c)
  answered_to e c is = record { event = event_to w s t e is.event; answer = t.plain.answer ∙ ap (option_map first_content) is.answer }

  signalled_to : (id : ℕ) (m : Machine) (signal : Signal) → IsSignalled id m w signal → IsSignalled id (without_kind m) s signal
  signalled_to id m signal (by_command c) = by_command (record {
    operator = c.operator;
    key = c.key;
    version = c.version;
    command = c.command;
    action = c.action;
    content = c.content;
    accepted = accepted_to w s t c.operator c.key (OnMachine id c.version c.command) c.content c.accepted;
    acts = c.acts;
    signal_is = c.signal_is;
  })
  signalled_to id m signal (by_report r) = by_report (record {
    boot = r.boot;
    progress = r.progress;
    counts = (r.counts.0, answered_to _ _ r.counts.1);
    recorded = same_boots w.before s.before t.plain.before r.boot.number ∙ r.recorded;
    its = r.its;
    signal_is = r.signal_is;
  })
  signalled_to id m signal (by_answer o) = by_answer (record {
    order = o.order;
    outcome = o.outcome;
    counts = (o.counts.0, answered_to _ _ o.counts.1);
    recorded = same_orders w.before s.before t.plain.before o.order.number ∙ o.recorded;
    its = o.its;
    signal_is = o.signal_is;
  })
  signalled_to id m signal (by_deadline d) = by_deadline (record {
    quiet = event_to w s t _ d.quiet;
    due = ap (λ (a : Arrival). is_due m.deadline a.moment) t.plain.same ∙ d.due;
    signal_is = d.signal_is;
  })
  signalled_to id m signal (by_fourth_boot f) = by_fourth_boot (record {
    mac = f.mac;
    asks = machine_at w.before s.before t.plain.before f.mac m f.asks;
    not_offered = ap (λ (g : Hall). offered_boot (row_at g.boots m.boot)) t.plain.before.others ∙ f.not_offered;
    held = record {
      event = event_to w s t _ f.held.event;
      answer = (answered_to _ _ f.held).answer ∙ ap (λ (c : List Command). Some (script c)) plain_hold;
    };
    fourth = f.fourth;
    signal_is = f.signal_is;
  })

  abbrev takes_to : (id : ℕ) → TakesRow id w → TakesRow id s
  takes_to id r = record {
    machine = without_kind r.machine;
    after = without_kind r.after;
    signal = r.signal;
    to = r.to;
    before_is = plain_row w.before s.before t.plain.before id r.machine r.before_is;
    after_is = plain_row w.after s.after t.plain.after id r.after r.after_is;
    row = same_step r.machine r.signal ∙ r.row;
    status = r.status;
    signalled = signalled_to id r.machine r.signal r.signalled;
  }

  pub enters_by_table : EntersByTable whole w → EntersByTable past s
  enters_by_table law id entry = elim (law id (entry_back w s t id entry)) [
    | inl made ↦ inl (forgotten_none w.before s.before t.plain.before id made.0, subst (λ (a : Arrival). AsksForMachine a.event) (sym t.plain.same) made.1)
    | inr takes ↦ inr (takes_to id takes)
  ]

  -- ---- orders

  pub waits_for_one : AlwaysWaitsForOne whole w → AlwaysWaitsForOne past s
  waits_for_one law = waits_forgotten w.before s.before t.plain.before law

  pub queues_at_entries : QueuesAtEntries whole w → QueuesAtEntries past s
  queues_at_entries law n o none is =
      let q = law n o (sym (same_orders w.before s.before t.plain.before n) ∙ none) (sym (same_orders w.after s.after t.plain.after n) ∙ is) in
      record { waits = q.waits; entry = entry_to w s t o.machine q.entry; takes = takes_to o.machine q.takes; kind = q.kind }

  pub waits_no_more : WaitsNoMore whole w → WaitsNoMore past s
  waits_no_more law n k o was stopped is =
      law n k o (sym (same_orders w.before s.before t.plain.before n) ∙ was) stopped (sym (same_orders w.after s.after t.plain.after n) ∙ is)

  pub answers_once : CountsAnswerOnce whole w → CountsAnswerOnce past s
  answers_once law number counts = later.answers_once whole past (twins_like whole past twins) w law number (some_back w s t number counts)

  -- ---- request keys

  pub accepts_once : AcceptsOnce whole w → AcceptsOnce past s
  accepts_once law operator key accepts =
      later.accepts_once whole past (twins_like whole past twins) w law operator key (accepts.0, accepts.1, accepted_back w s t operator key accepts.0 accepts.1 accepts.2)

  -- a command is answered so in both
  answered_same : (bearer : Option (List ℕ)) (key : List ℕ) (command : HallCommand) (c : Content) → WasAnswered s (event.Command bearer key command) c
      → WasAnswered w (event.Command bearer key command) c × (is_same c ≡ true)
  answered_same bearer key command c is = (subst (WasAnswered w (event.Command bearer key command)) same before, ap is_same (sym same) ∙ plainly)
    where
      a : IsAnswerOf w.answer c
      a = answer_of w.answer c (sym t.plain.answer ∙ is.answer)

      before : WasAnswered w (event.Command bearer key command) a.content
      before = record { event = event_back w s t _ is.event; answer = a.is }

      plainly : is_same a.content ≡ true
      plainly = ap is_same (sym (came_so w (event.Command bearer key command) a.content t.step before).content_is
          ∙ ap (λ (d : Decided). d.content) (command_of w.arrival.site w.before bearer key command w.arrival.moment w.arrival.fresh))
          ∙ command_same w.before bearer key command w.arrival.moment

      same : a.content ≡ c
      same = sym (same_content a.content plainly) ∙ a.its

  abbrev keyed_back : (operator key : List ℕ) → KeyedRequest operator key s → KeyedRequest operator key w
  keyed_back operator key its = record {
    bearer = its.bearer;
    by = its.by;
    command = its.command;
    content = its.content;
    known = sym (same_sender w.before s.before t.plain.before its.bearer) ∙ its.known;
    named = its.named;
    answered = (answered_same its.bearer key its.command its.content its.answered).0;
  }

  pub accepts_with_ok : AcceptsWithOk whole w → AcceptsWithOkIn first past s
  accepts_with_ok law operator key command content accepted =
      let before = accepted_back w s t operator key command content accepted in
      subst (HasStatus 200) (sym (same_reply content (done_same content (accepted_is_done w t.step t.sound operator key command content before)))) (law operator key command content before)

  pub repeats_first : RepeatsFirst whole w → RepeatsFirstIn first past s
  repeats_first law operator key request its =
      let again = later.repeats_first whole past (twins_like whole past twins) w law operator key request (keyed_back operator key its) in (
        again_in_first its.by request.command its.command request.content its.content
            (done_same request.content (some_done operator key request.command request.content whole past twins request.accepted))
            (answered_same its.bearer key its.command its.content its.answered).1 again.0,
        stays_to w s t again.1,
      )

  pub answers_accepted : AnswersAccepted whole w → AnswersAcceptedIn first past s
  answers_accepted law operator key its ok =
      let same = same_reply its.content (answered_same its.bearer key its.command its.content its.answered).1 in
      let was = later.answers_accepted whole past (twins_like whole past twins) w law operator key (keyed_back operator key its) (subst (HasStatus 200) same ok) in
      let command = was.first.command in
      let content = was.first.content in
      let accepted = some_twin (IsAccepted operator key command content) (accepted_to w s t operator key command content) was.first.accepted in
      let says = some_done operator key command content (whole ++ (w ∷ [])) (past ++ (s ∷ [])) (twins_with whole past w s twins t) accepted in
      record {
        first = record { command = command; content = content; accepted = accepted };
        command = was.command;
        answer = same ∙ (was.answer ∙ sym (same_reply content (done_same content says)));
      }
    where
      some_twin : (P : Step → Type 0) → (P w → P s) → SomeOf P (past ++ (w ∷ [])) → SomeOf P (past ++ (s ∷ []))
      some_twin P to some = elim (some_of_more P past w some) [ inl before ↦ some_before P past s before | inr now ↦ some_now P past s (to now) ]

-- ---- deploying

-- the rows of the hall before the step are of their types
abbrev pub HadWholeRows : List Step → Step → Type 0
HadWholeRows past s = HasWholeRows s.before

module _ (whole past : List Step) (twins : AreTwins whole past) (w s : Step) (t : IsTwin w s) where
  rightly_deployed : (mac : List ℕ) (commands before : List Command) → commands ≡ plain before → (r : IsRightlyDeployed w.arrival.site.host mac before whole w.before)
      → has_hall_word r.image.args ≡ false → IsRightlyDeployed s.arrival.site.host mac commands past s.before
  rightly_deployed mac commands before its r none =
      let id = r.machine.id in
      let l = last_like (IsEntry id) (λ w s t. entry_to w s t id) (λ w s t. entry_back w s t id) whole past (twins_like whole past twins) r.entry in
      record {
        machine = without_kind r.machine;
        asks = machine_at w.before s.before t.plain.before mac r.machine r.asks;
        status = r.status;
        entry = l.last;
        name = r.name;
        image = r.image;
        deploy = like_to (IsDeploy id r.name r.image) (λ w s t. deploy_to w s t id r.name r.image) r.entry.step l.last.step l.like r.deploy;
        boot = r.boot;
        boots = its ∙ (ap plain r.boots ∙ (plain_work w.arrival.site.host purpose.Deploy r.machine.erase r.boot r.image none ∙ same_host r.boot r.image));
      }
    where
      same_host : (b : Boot) (image : BootImage) → work_script w.arrival.site.host purpose.Deploy None b image ≡ work_script s.arrival.site.host purpose.Deploy None b image
      same_host b image = ap (λ (a : Arrival). work_script a.site.host purpose.Deploy None b image) (sym t.plain.same)

pub deploys : (whole steps : List Step) → AreTwins whole steps → AtEachStep GivesScripts whole → AtEachStep HadWholeRows whole → AtEachStep DeploysRightly whole
    → AtEachStep DeploysRightly steps
deploys whole steps twins scripts rows law past s more are mac commands gives deploying =
    let t = twins_of whole past s more (subst (AreTwins whole) are twins) in
    let text = text_of t.step_whole s t.step_twin.plain mac commands gives in
    let is = scripts t.past_whole t.step_whole t.later_whole t.are mac text.whole text.gives in
    let before = deploying_before text.whole is (subst (λ (c : List Command). IsDeploying (spelling c)) text.its deploying) in
    let r = law t.past_whole t.step_whole t.later_whole t.are mac text.whole text.gives before in
    rightly_deployed t.past_whole past t.past_twins t.step_whole s t.step_twin mac commands text.whole text.its r
    (image_free r.entry.earlier r.entry.step r.entry.later (t.step_whole ∷ t.later_whole) t.past_whole t.are r.entry.are r.name r.image r.deploy.recorded)
  where
    image_free : (earlier : List Step) (entry : Step) (since rest until : List Step) → whole ≡ until ++ rest → until ≡ earlier ++ (entry ∷ since)
        → (name : List ℕ) (image : BootImage) → at entry.before.images name ≡ Some image → has_hall_word image.args ≡ false
    image_free earlier entry since rest until all is name image recorded =
        ((rows earlier entry (since ++ rest) (all ∙ (ap (λ (xs : List Step). xs ++ rest) is ∙ append_assoc earlier (entry ∷ since) rest))).images name image recorded).free

-- ---- where there are no steps

pub no_steps : KeepsFirstLaws []
no_steps = record {
  local_boots = none BootsLocally;
  scripts_are_asked = none ScriptIsAsked;
  texts_are_scripts = λ typed. none GivesScripts;
  erasing_is_released = λ typed. none ErasesFully;
  deploying_is_commanded = λ typed. none DeploysRightly;
  own_boots = none CountsOwnBoot;
  started_first = none CountsStartedFirst;
  verdict_once = none CountsVerdictOnce;
  numbers_once = none NumbersOnce;
  entries_by_table = none EntersByTable;
  machines_stay = none KeepsMachines;
  versions_rise_by_changes = none RaisesVersions;
  accepted_once = none AcceptsOnce;
  accepted_with_ok = none (AcceptsWithOkIn first);
  repeats_first = none (RepeatsFirstIn first);
  answers_accepted = none (AnswersAcceptedIn first);
  always_waits_for_one = none AlwaysWaitsForOne;
  queues_at_entries = none QueuesAtEntries;
  waits_no_more = none WaitsNoMore;
  answers_once = none CountsAnswerOnce;
  refusals = none RefusesWithoutChange;
}
  where
    none : (P : List Step → Step → Type 0) → AtEachStep P []
    none P [] s later are = cc
    none P (p ∷ past) s later are = cc
