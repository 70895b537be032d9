-- What a step of the first schema shares with that of the second.
use Rattle.std.{proofs.{Common.{◌≡◌, ◌≢◌, ℕ, List, true, refl, sym, ap, subst, ◌∙◌, inl, inr}, lemmas.Option.none-some}, specs.Prelude.{Option, Some, None, option_map}}
use Rattle.ipxe_script.specs.declared.command.Command.{Command}
use Rattle.hall_types.specs.Rows.{at, numbers}
use Rattle.hall_laws.{specs.{Prelude.{Hall, applied, first, Rows, same_rows, Boot, RowWrite, Erase, Full, Quick, Progress, Machine, Refusal, BootImage, Content, counted, done, machine_gone, machine_is, nothing, refused, script, HallCommand, OnMachine, MachineCommand, Deploy, Release, Event, IsSound, some_is, sender}, Decision.{Decided, decision_of}, Migration.IsMigrated, Step.{Arrival, IsStep, Step}, Writes.{WritesAll, is_command, is_done, with_receipt, without_receipt}, WritesLaws.decision_writes, Laws.{CountsAny, CountsSome, CountsVerdict, GivesText, IsByOwner, IsDeploy, IsMachineAt, IsReleaseErasing, MakesBoot, MakesMachine, MakesOrder, Withdraws}, Past.{CountsReport, IsAccepted, IsEntry, IsIssue, IsOtherEntry, IsRescueEntry, IssuesFor, WasAnswered}, FirstSchema.{AllKeepFull, IsForgotten, IsPlain, NeverAsksQuick, first_content, plain, without_kind}}, proofs.{AnswerLemmas.was_accepted, Forgetting.{carried_again, carried_only}, Scripts.same_script}}

-- ---- halls

pub record IsRowOf (row : Option Machine) (m : Machine) : Type 0 where
  pub machine : Machine
  pub is : row ≡ Some machine
  pub its : m ≡ without_kind machine

row_of : (row : Option Machine) (m : Machine) → option_map without_kind row ≡ Some m → IsRowOf row m
row_of None m is = absurd (none-some m is)
row_of (Some k) m is = record { machine = k; is = refl; its = sym (some_is (without_kind k) m is) }

no_row : (row : Option Machine) → option_map without_kind row ≡ None → row ≡ None
no_row None is = refl
no_row (Some k) is = cc

-- the machine that an address is recorded with, before its kind was forgotten
pub record IsMachineBefore (x : Hall) (mac : List ℕ) (m : Machine) : Type 0 where
  pub machine : Machine
  pub asks : IsMachineAt x mac machine
  pub its : m ≡ without_kind machine

module _ (x h : Hall) (forgotten : IsForgotten x h) where
  pub whole_row : (id : ℕ) (m : Machine) → at h.machines id ≡ Some m → IsRowOf (at x.machines id) m
  whole_row id m is = row_of (at x.machines id) m (sym (forgotten.machines id) ∙ is)

  pub plain_row : (id : ℕ) (m : Machine) → at x.machines id ≡ Some m → at h.machines id ≡ Some (without_kind m)
  plain_row id m is = forgotten.machines id ∙ ap (option_map without_kind) is

  pub none_row : (id : ℕ) → at h.machines id ≡ None → at x.machines id ≡ None
  none_row id is = no_row (at x.machines id) (sym (forgotten.machines id) ∙ is)

  -- all other tables are the same
  pub same_boots : (number : ℕ) → at h.boots number ≡ at x.boots number
  same_boots number = ap (λ (g : Hall). at g.boots number) forgotten.others

  pub same_orders : (number : ℕ) → at h.orders number ≡ at x.orders number
  same_orders number = ap (λ (g : Hall). at g.orders number) forgotten.others

  same_images : (name : List ℕ) → at h.images name ≡ at x.images name
  same_images name = ap (λ (g : Hall). at g.images name) forgotten.others

  pub same_sender : (bearer : Option (List ℕ)) → sender h bearer ≡ sender x bearer
  same_sender None = refl
  same_sender (Some digest) = ap (λ (g : Hall). sender g (Some digest)) forgotten.others

  pub machine_before : (mac : List ℕ) (m : Machine) → IsMachineAt h mac m → IsMachineBefore x mac m
  machine_before mac m is =
      let row = whole_row is.interface.machine m is.found in
      record {
        machine = row.machine;
        asks = record { interface = is.interface; recorded = sym (ap (λ (g : Hall). at g.interfaces mac) forgotten.others) ∙ is.recorded; found = row.is };
        its = row.its;
      }

  pub machine_at : (mac : List ℕ) (m : Machine) → IsMachineAt x mac m → IsMachineAt h mac (without_kind m)
  machine_at mac m is = record {
    interface = is.interface;
    recorded = ap (λ (g : Hall). at g.interfaces mac) forgotten.others ∙ is.recorded;
    found = plain_row is.interface.machine m is.found;
  }

-- a hall forgets its kinds in one way
pub forgotten_only : (x h g : Hall) → IsForgotten x h → IsForgotten x g → g ≡ h
forgotten_only x h g one other =
    let same : g.machines ≡ h.machines = same_rows g.machines h.machines (λ id. other.machines id ∙ sym (one.machines id)) in
    other.others ∙ (ap (λ (rows : Rows numbers Machine). record x { schema = first; machines = rows }) same ∙ sym one.others)

-- ---- answers

-- this was answered, before the kinds were forgotten
pub record IsAnswerOf (answer : Option Content) (c : Content) : Type 0 where
  pub content : Content
  pub is : answer ≡ Some content
  pub its : first_content content ≡ c

pub answer_of : (answer : Option Content) (c : Content) → option_map first_content answer ≡ Some c → IsAnswerOf answer c
answer_of None c is = absurd (none-some c is)
answer_of (Some content) c is = record { content = content; is = refl; its = some_is (first_content content) c is }

pub record IsScriptOf (c : Content) (commands : List Command) : Type 0 where
  pub whole : List Command
  pub is : c ≡ script whole
  pub its : commands ≡ plain whole

pub script_of : (c : Content) (commands : List Command) → first_content c ≡ script commands → IsScriptOf c commands
script_of (script whole) commands is = record { whole = whole; is = refl; its = sym (same_script (plain whole) commands is) }
script_of other commands is = cc

counted_before : (c : Content) → first_content c ≡ counted → c ≡ counted
counted_before counted is = refl
counted_before other is = cc

pub refused_before : (c : Content) (why : Refusal) → first_content c ≡ refused why → c ≡ refused why
refused_before (refused other) why is = is
refused_before other why is = cc

pub nothing_before : (c : Content) → first_content c ≡ nothing → c ≡ nothing
nothing_before nothing is = refl
nothing_before other is = cc

-- what says that a command is carried out names no kind
done_stays : (c : Content) → is_done c ≡ true → first_content c ≡ c
done_stays (machine_is id status version) is = refl
done_stays (machine_gone id) is = refl
done_stays done is = refl
done_stays other is = cc

-- an accepted command is carried out
pub accepted_is_done : (w : Step) → IsStep w → IsSound w.before → (operator key : List ℕ) (command : HallCommand) (c : Content) → IsAccepted operator key command c w → is_done c ≡ true
accepted_is_done w (inr missed) sound operator key command c is = absurd (none-some c (sym missed.answer ∙ is.answered.answer))
accepted_is_done w (inl came) sound operator key command c is =
    by (decision_of w.arrival.site w.before w.arrival.event w.arrival.moment w.arrival.fresh) came.answer came.after
    (decision_writes w.arrival.site w.before sound w.arrival.event w.arrival.moment w.arrival.fresh)
  where
    by : (d : Decided) → w.answer ≡ Some d.content → w.after ≡ applied d.rows w.before
        → WritesAll w.before w.arrival.event w.arrival.moment w.arrival.fresh d → is_done c ≡ true
    by d answer after (without_receipt none writes) =
        absurd (is.changes (after ∙ ap (λ (rows : List RowWrite). applied rows w.before) (none (ap is_command is.answered.event))))
    by d answer after (with_receipt own writes x) = ap is_done (some_is c d.content (sym is.answered.answer ∙ answer)) ∙ x.says

-- ---- texts

pub record IsTextOf (mac : List ℕ) (commands : List Command) (w : Step) : Type 0 where
  pub whole : List Command
  pub gives : GivesText mac whole w
  pub its : commands ≡ plain whole

pub text_of : (w s : Step) → IsPlain w s → (mac : List ℕ) (commands : List Command) → GivesText mac commands s → IsTextOf mac commands w
text_of w s is mac commands gives =
    let a = answer_of w.answer (script commands) (sym is.answer ∙ gives.answer) in
    let o = script_of a.content commands a.its in
    record {
      whole = o.whole;
      gives = record { event = ap (λ (a : Arrival). a.event) (sym is.same) ∙ gives.event; answer = a.is ∙ ap (λ (c : Content). Some c) o.is };
      its = o.its;
    }

-- ---- steps

-- s is the step w of the second schema as the first has it, and each machine of w's halls keeps `full`, where it keeps a kind
pub record IsTwin (w s : Step) : Type 0 where
  pub plain : IsPlain w s
  pub step : IsStep w
  pub sound : IsSound w.before
  pub before : AllKeepFull w.before
  pub after : AllKeepFull w.after
  pub asks : NeverAsksQuick w

-- a release for erasing is for full erasing
pub release_full : (w : Step) → NeverAsksQuick w → (id : ℕ) (kind : Erase) → IsReleaseErasing id kind w → kind ≡ Full
release_full w asks id Full is = refl
release_full w asks id Quick is = absurd (asks (is.accepted.bearer, is.key, id, is.version, is.accepted.answered.event))

module _ (w s : Step) (t : IsTwin w s) where
  pub event_back : (e : Event) → s.arrival.event ≡ e → w.arrival.event ≡ e
  event_back e is = ap (λ (a : Arrival). a.event) (sym t.plain.same) ∙ is

  pub event_to : (e : Event) → w.arrival.event ≡ e → s.arrival.event ≡ e
  event_to e is = ap (λ (a : Arrival). a.event) t.plain.same ∙ is

  -- ---- entries

  pub entry_to : (id : ℕ) → IsEntry id w → IsEntry id s
  entry_to id e = (
    without_kind e.0,
    plain_row w.after s.after t.plain.after id e.0 e.1,
    λ k was same. let o = whole_row w.before s.before t.plain.before id k was in e.2 o.machine o.is (sym (ap (λ (m : Machine). m.status) o.its) ∙ same),
  )

  pub entry_back : (id : ℕ) → IsEntry id s → IsEntry id w
  entry_back id e =
      let o = whole_row w.after s.after t.plain.after id e.0 e.1 in
      (o.machine, o.is, λ k was same. e.2 (without_kind k) (plain_row w.before s.before t.plain.before id k was) (same ∙ sym (ap (λ (m : Machine). m.status) o.its)))

  rescue_to : (id : ℕ) → IsRescueEntry id w → IsRescueEntry id s
  rescue_to id e =
      (without_kind e.0, without_kind e.1, plain_row w.before s.before t.plain.before id e.0 e.2, plain_row w.after s.after t.plain.after id e.1 e.3, e.4, e.5)

  pub other_entry_back : (id : ℕ) → IsOtherEntry id s → IsOtherEntry id w
  other_entry_back id e = (entry_back id e.0, λ rescue. e.1 (rescue_to id rescue))

  -- ---- boots and numbers

  pub issue_to : (id : ℕ) (b : Boot) → IsIssue id b w → IsIssue id b s
  issue_to id b is = record {
    mac = is.mac;
    asked = event_to _ is.asked;
    before = same_boots w.before s.before t.plain.before b.number ∙ is.before;
    after = same_boots w.after s.after t.plain.after b.number ∙ is.after;
    machine = is.machine;
  }

  pub issues_to : (id : ℕ) → IssuesFor id w → IssuesFor id s
  issues_to id is = (is.0, issue_to id is.0 is.1)

  pub issues_back : (id : ℕ) → IssuesFor id s → IssuesFor id w
  issues_back id is = (
    is.0,
    record {
      mac = is.1.mac;
      asked = event_back _ is.1.asked;
      before = sym (same_boots w.before s.before t.plain.before is.0.number) ∙ is.1.before;
      after = sym (same_boots w.after s.after t.plain.after is.0.number) ∙ is.1.after;
      machine = is.1.machine;
    },
  )

  pub machine_back : (id : ℕ) → MakesMachine id s → MakesMachine id w
  machine_back id is = let o = whole_row w.after s.after t.plain.after id is.0 is.2 in (o.machine, none_row w.before s.before t.plain.before id is.1, o.is)

  pub boot_back : (number : ℕ) → MakesBoot number s → MakesBoot number w
  boot_back number is =
      (is.0, sym (same_boots w.before s.before t.plain.before number) ∙ is.1, sym (same_boots w.after s.after t.plain.after number) ∙ is.2)

  pub order_back : (number : ℕ) → MakesOrder number s → MakesOrder number w
  order_back number is =
      (is.0, sym (same_orders w.before s.before t.plain.before number) ∙ is.1, sym (same_orders w.after s.after t.plain.after number) ∙ is.2)

  -- ---- counting

  pub answered_back : (e : Event) → WasAnswered s e counted → WasAnswered w e counted
  answered_back e is =
      let a = answer_of w.answer counted (sym t.plain.answer ∙ is.answer) in
      record { event = event_back e is.event; answer = a.is ∙ ap (λ (c : Content). Some c) (counted_before a.content a.its) }

  pub report_back : (number : ℕ) (progress : Progress) → CountsReport number progress s → CountsReport number progress w
  report_back number progress is = (is.0, answered_back _ is.1)

  pub any_back : (number : ℕ) → CountsAny number s → CountsAny number w
  any_back number is = (is.0, report_back number is.0 is.1)

  pub verdict_back : (number : ℕ) → CountsVerdict number s → CountsVerdict number w
  verdict_back number (inl is) = inl (report_back number _ is)
  verdict_back number (inr is) = inr (report_back number _ is)

  pub some_back : (number : ℕ) → CountsSome number s → CountsSome number w
  some_back number is = (is.0, (is.1.0, answered_back _ is.1.1))

  pub withdraws_back : (number : ℕ) → Withdraws number s → Withdraws number w
  withdraws_back number is = (
    is.0,
    is.1,
    sym (same_orders w.before s.before t.plain.before number) ∙ is.2,
    is.3,
    sym (same_orders w.after s.after t.plain.after number) ∙ is.4,
    is.5,
  )

  -- ---- accepted commands

  -- one step changes the hall if and only if the other does
  changes_to : w.after ≢ w.before → s.after ≢ s.before
  changes_to moves same =
      moves (carried_only s.before w.before w.after (carried_again w.before s.before t.before t.plain.before)
      (subst (λ (g : Hall). IsMigrated g w.after) same (carried_again w.after s.after t.after t.plain.after)))

  pub stays_to : w.after ≡ w.before → s.after ≡ s.before
  stays_to same = forgotten_only w.before s.before s.after t.plain.before (subst (λ (g : Hall). IsForgotten g s.after) same t.plain.after)

  changes_back : s.after ≢ s.before → w.after ≢ w.before
  changes_back moves same = moves (stays_to same)

  pub accepted_to : (operator key : List ℕ) (command : HallCommand) (c : Content) → IsAccepted operator key command c w → IsAccepted operator key command c s
  accepted_to operator key command c is = record {
    bearer = is.bearer;
    by = is.by;
    known = same_sender w.before s.before t.plain.before is.bearer ∙ is.known;
    named = is.named;
    answered = record {
      event = event_to _ is.answered.event;
      answer = t.plain.answer
          ∙ (ap (option_map first_content) is.answered.answer
          ∙ ap (λ (c : Content). Some c) (done_stays c (accepted_is_done w t.step t.sound operator key command c is)));
    };
    accepted = is.accepted;
    changes = changes_to is.changes;
  }

  pub accepted_back : (operator key : List ℕ) (command : HallCommand) (c : Content) → IsAccepted operator key command c s → IsAccepted operator key command c w
  accepted_back operator key command c is =
      subst (λ (c : Content). IsAccepted operator key command c w) (sym (done_stays a.content (accepted_is_done w t.step t.sound operator key command a.content before)) ∙ a.its) before
    where
      a : IsAnswerOf w.answer c
      a = answer_of w.answer c (sym t.plain.answer ∙ is.answered.answer)

      before : IsAccepted operator key command a.content w
      before =
          was_accepted w t.step (sym (same_sender w.before s.before t.plain.before is.bearer) ∙ is.known) is.named (record { event = event_back _ is.answered.event; answer = a.is })
          (changes_back is.changes)

  by_owner_to : (id : ℕ) (command : MachineCommand) → IsByOwner id command w → IsByOwner id command s
  by_owner_to id command is = record {
    operator = is.operator;
    key = is.key;
    version = is.version;
    content = is.content;
    accepted = accepted_to is.operator is.key (OnMachine id is.version command) is.content is.accepted;
    machine = without_kind is.machine;
    found = plain_row w.before s.before t.plain.before id is.machine is.found;
    owner = is.owner;
  }

  pub release_to : (id : ℕ) (kind : Erase) → IsReleaseErasing id kind w → IsReleaseErasing id kind s
  release_to id kind = by_owner_to id (Release (Some kind))

  pub deploy_to : (id : ℕ) (name : List ℕ) (image : BootImage) → IsDeploy id name image w → IsDeploy id name image s
  deploy_to id name image is =
      record { by_owner = by_owner_to id (Deploy name) is.by_owner; recorded = same_images w.before s.before t.plain.before name ∙ is.recorded }
