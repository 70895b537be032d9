-- What each decision answers: a refusal that writes nothing, a script to who asked for one, or something else.
use Rattle.std.{proofs.{Common.{◌≡◌, ◌≢◌, ◌∙◌, ℕ, Bool, true, false, List, [], refl, sym, ap, subst, inl, inr}, lemmas.{Bool.false≢true, Option.none-some}}, specs.Prelude.{map, Option, Some, None, Ok, Err}}
use Rattle.ipxe_script.specs.declared.command.Command.{Command as Line}
use Rattle.hall_types.specs.Rows.{at, listed as rows_of}
use Rattle.hall_events.specs.declared.event.Event.TheVariants as event
use Rattle.boot_desk.specs.{Fetch.fetched, FrameEvent.frame_decision, OrderAnswer.answered, Report.reported, declared.frames.Decision.Decision as FrameDecision}
use Rattle.desk_command.specs.{Command.{command_decision, with_receipt}, Effect.{Effect, effect}, Causes.command_view}
use Rattle.hall_laws.{specs.{Prelude.{Site, Client, Hall, applied, RowWrite, Operator, Port, Refusal, waiting, Content, machine_list, nothing, refused, script, waiting_orders, Event, HallCommand, Fetched, frame_view, Judged, IsSound, some_is, order_view, report_view, view_at, Counted, Repeat, Loader, Enlist, BootView, sender, command_cases}, Decision.{Decided, decision_of, listed_of, framed, given, given_if, judged, listed_if, commanded, refuses, says, may_see_orders, may_answer, may_see_machines}, CommandLaws.{SaysDone, effect_says}, Laws.{IsFrame, RefusesWithoutChange, ScriptIsAsked}, Past.{AtEachStep, IsAccepted, WasAnswered}, Refusing.IsRefusal, Step.{IsRun, IsStep, Step}, Writes.is_done, WritesLaws.{listed_cases, role_cases}}, proofs.{Effects.decided, Frame.run_split}}

-- ---- what is answered

-- a refusal writes nothing, and a script goes to who asked for one
record Answers (e : Event) (d : Decided) : Type 0 where
  refusal : IsRefusal d.content → d.rows ≡ []
  scripts : (commands : List Line) → d.content ≡ script commands → (mac : List ℕ) × (e ≡ event.Script mac)

-- neither a refusal nor a script
abbrev is_other : Content → Bool
is_other (refused why) = false
is_other (script commands) = false
is_other other = true

module _ (e : Event) where
  other_answers : (d : Decided) → is_other d.content ≡ true → Answers e d
  other_answers d other = record {
    refusal = λ is. absurd (false≢true (sym (ap is_other is.1) ∙ other));
    scripts = λ commands is. absurd (false≢true (sym (ap is_other is) ∙ other));
  }

  empty_answers : (d : Decided) → d.rows ≡ [] → ((commands : List Line) → d.content ≡ script commands → ⊥) → Answers e d
  empty_answers d none no_script = record { refusal = λ is. none; scripts = λ commands is. absurd (no_script commands is) }

  refused_answers : (why : Refusal) → Answers e (refuses why)
  refused_answers why = empty_answers (refuses why) refl (λ commands is. cc)

  framed_answers : (d : FrameDecision) (site : Site) (h : Hall) (client : Client) → Answers e (framed d site h client)
  framed_answers Loader site h client = other_answers _ refl
  framed_answers other site h client = other_answers _ refl

  judged_answers : (j : Judged) → Answers e (judged j)
  judged_answers (Ok (rows, Counted)) = other_answers _ refl
  judged_answers (Ok (rows, Repeat)) = other_answers _ refl
  judged_answers (Err why) = refused_answers why

  done_is_other : (c : Content) → is_done c ≡ true → is_other c ≡ true
  done_is_other (refused why) is = cc
  done_is_other (script commands) is = cc
  done_is_other other is = refl

  receipt_answers : (o : Operator) (key : List ℕ) (command : HallCommand) (x : Effect) → SaysDone x → Answers e (commanded (with_receipt o key command x))
  receipt_answers o key command (Ok decision) done = other_answers _ (done_is_other decision.1 done)
  receipt_answers o key command (Err why) done = refused_answers why

  command_answers : (h : Hall) (bearer : Option (List ℕ)) (key : List ℕ) (command : HallCommand) (moment : ℕ) → Answers e (commanded (command_decision h bearer key command moment))
  command_answers h bearer key command moment =
      command_cases h bearer key command moment (λ x. Answers e (commanded x)) refused_answers (λ o r sent there same. other_answers _ refl)
      (λ o sent enabled free none. receipt_answers o key command (effect (command_view h o command) o command moment) (effect_says (command_view h o command) o command moment))

given_answers : (mac : List ℕ) (answer : Fetched) → Answers (event.Script mac) (given answer)
given_answers mac (Ok answer) = record { refusal = λ is. let apart = is.1 in cc; scripts = λ commands is. (mac, refl) }
given_answers mac (Err why) = refused_answers (event.Script mac) why

given_if_answers : (mac host : List ℕ) (v : Option BootView) (moment : ℕ) (fresh : List ℕ) → Answers (event.Script mac) (given_if host v moment fresh)
given_if_answers mac host None moment fresh = refused_answers (event.Script mac) _
given_if_answers mac host (Some v) moment fresh = given_answers mac (fetched host v moment fresh)

answers : (site : Site) (h : Hall) (e : Event) (moment : ℕ) (fresh : List ℕ) → Answers e (decision_of site h e moment fresh)
unfolding decision_of
answers site h (event.Frame port client) moment fresh = framed_answers _ (frame_decision (frame_view h client) port client) site h client
answers site h (event.Script mac) moment fresh = given_if_answers mac site.host (view_at h mac) moment fresh
answers site h (event.Report boot token progress) moment fresh = judged_answers _ (reported (report_view h boot) token progress moment)
answers site h (event.Orders bearer) moment fresh =
    role_cases (Answers (event.Orders bearer)) (refused_answers _) may_see_orders (sender h bearer) (says (waiting_orders (waiting h))) (other_answers _ _ refl)
answers site h (event.OrderAnswer bearer order outcome) moment fresh =
    role_cases (Answers (event.OrderAnswer bearer order outcome)) (refused_answers _) may_answer (sender h bearer) (judged (answered (order_view h order) outcome moment)) (judged_answers _ (answered (order_view h order) outcome moment))
answers site h (event.Machines bearer) moment fresh =
    role_cases (Answers (event.Machines bearer)) (refused_answers _) may_see_machines (sender h bearer) (says (machine_list (map (listed_of h) (rows_of h.machines)))) (other_answers _ _ refl)
answers site h (event.OneMachine bearer machine) moment fresh =
    role_cases (Answers (event.OneMachine bearer machine)) (refused_answers _) may_see_machines (sender h bearer) (listed_if h (at h.machines machine))
    (listed_cases (Answers (event.OneMachine bearer machine)) (refused_answers _ _) h (λ m. other_answers _ _ refl) (at h.machines machine))
answers site h (event.Command bearer key command) moment fresh = command_answers _ h bearer key command moment
answers site h event.Quiet moment fresh = other_answers _ _ refl

pub keeps : (site : Site) (h : Hall) (e : Event) (moment : ℕ) (fresh : List ℕ) → IsRefusal (decision_of site h e moment fresh).content → (decision_of site h e moment fresh).rows ≡ []
keeps site h e moment fresh = (answers site h e moment fresh).refusal

-- ---- a client that isn't answered

abbrev is_nothing : Content → Bool
is_nothing nothing = true
is_nothing other = false

silent : (d : FrameDecision) (site : Site) (h : Hall) (client : Client) → (framed d site h client).content ≡ nothing → (framed d site h client).rows ≡ []
silent Enlist site h client is = absurd (false≢true (ap is_nothing is))
silent other site h client is = refl

pub keeps_silence : (site : Site) (h : Hall) (port : Port) (client : Client) (moment : ℕ) (fresh : List ℕ)
    → (decision_of site h (event.Frame port client) moment fresh).content ≡ nothing → (decision_of site h (event.Frame port client) moment fresh).rows ≡ []
unfolding decision_of
keeps_silence site h port client moment fresh is = silent (frame_decision (frame_view h client) port client) site h client is

-- ---- steps

-- the event's decision was answered, and its rows were written
pub record CameSo (s : Step) (e : Event) (content : Content) : Type 0 where
  pub content_is : (decision_of s.arrival.site s.before e s.arrival.moment s.arrival.fresh).content ≡ content
  pub after : s.after ≡ applied (decision_of s.arrival.site s.before e s.arrival.moment s.arrival.fresh).rows s.before

pub came_so : (s : Step) (e : Event) (content : Content) → IsStep s → WasAnswered s e content → CameSo s e content
came_so s e content (inl came) was = record {
  content_is =
      ap (λ x. (decision_of s.arrival.site s.before x s.arrival.moment s.arrival.fresh).content) (sym was.event)
      ∙ some_is (decision_of s.arrival.site s.before s.arrival.event s.arrival.moment s.arrival.fresh).content content (sym came.answer ∙ was.answer);
  after = came.after ∙ ap (λ x. applied (decision_of s.arrival.site s.before x s.arrival.moment s.arrival.fresh).rows s.before) was.event;
}
came_so s e content (inr missed) was = absurd (none-some content (sym missed.answer ∙ was.answer))

-- a step whose decision writes nothing leaves the hall
leaves_hall : (s : Step) (content : Content) → IsStep s → s.answer ≡ Some content → (content ≡ (decided s).content → (decided s).rows ≡ []) → s.after ≡ s.before
leaves_hall s content (inl came) answer none =
    came.after ∙ ap (λ (rows : List RowWrite). applied rows s.before) (none (some_is content (decided s).content (sym answer ∙ came.answer)))
leaves_hall s content (inr missed) answer none = missed.after

pub keeps_hall : (s : Step) (content : Content) → IsStep s → s.answer ≡ Some content → IsRefusal content → s.after ≡ s.before
keeps_hall s content step answer refusal =
    leaves_hall s content step answer (λ is. keeps s.arrival.site s.before s.arrival.event s.arrival.moment s.arrival.fresh (subst IsRefusal is refusal))

-- a command that changes the hall is accepted
pub was_accepted : (s : Step) {bearer : Option (List ℕ)} {operator key : List ℕ} {command : HallCommand} {content : Content} {by : Operator} → IsStep s → sender s.before bearer ≡ Some by → by.name ≡ operator
    → WasAnswered s (event.Command bearer key command) content → s.after ≢ s.before → IsAccepted operator key command content s
was_accepted s {bearer = bearer} {content = content} {by = by} step known named answered changes = record {
  bearer = bearer;
  by = by;
  known = known;
  named = named;
  answered = answered;
  accepted = λ refusal. changes (keeps_hall s content step answered.answer refusal);
  changes = changes;
}

silent_leaves : (s : Step) (content : Content) → s.answer ≡ Some content → IsFrame s.arrival.event → content ≡ nothing → IsStep s → s.after ≡ s.before
silent_leaves s content answer frame is step =
    leaves_hall s content step answer (λ same. ap (λ (e : Event). (decision_of s.arrival.site s.before e s.arrival.moment s.arrival.fresh).rows) frame.2
    ∙ keeps_silence s.arrival.site s.before frame.0 frame.1 s.arrival.moment s.arrival.fresh
    (ap (λ (e : Event). (decision_of s.arrival.site s.before e s.arrival.moment s.arrival.fresh).content) (sym frame.2) ∙ (sym same ∙ is)))

-- what is refused, and a client that isn't answered, leave the hall
pub all_leave : (h end : Hall) (steps : List Step) → IsRun h steps end → AtEachStep RefusesWithoutChange steps
all_leave h end steps run past s later are content given =
    let step = (run_split past later s h end (subst (λ ss. IsRun h ss end) are run)).1 in
    λ cause. elim cause [ inl refusal ↦ keeps_hall s content step given refusal | inr silence ↦ silent_leaves s content given silence.0 silence.1 step ]

-- a script is given to no one but who asked for one
pub script_is_asked : (past : List Step) (s : Step) → IsStep s → IsSound s.before → ScriptIsAsked past s
script_is_asked past s (inr missed) sound commands given = absurd (none-some (script commands) (sym missed.answer ∙ given))
script_is_asked past s (inl came) sound commands given =
    let found = (answers s.arrival.site s.before s.arrival.event s.arrival.moment s.arrival.fresh).scripts commands (some_is (decided s).content (script commands) (sym came.answer ∙ given)) in
    (found.0, record { event = found.1; answer = given })
