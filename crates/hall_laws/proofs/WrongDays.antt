-- What a wrong hall would do: the day up to some step, and then one step that the model doesn't make. Each breaks a law.
use Rattle.std.{proofs.{Common.{◌≡◌, ◌≢◌, ◌⊎◌, ◌∙◌, ℕ, List, [], ◌∷◌, ◌++◌, true, false, Some, None, refl, sym, ap, subst, inl, inr, arith}, lemmas.Option.none-some}, specs.{Prelude.codes, List.AllByRecursion}}
use Rattle.hall_laws.{specs.{Prelude.{Uefi64, Hall, second, at-put-same, at-gone-same, Boot, MachineGone, PutInterface, PutMachine, PutOrder, PutPool, Waiting, Done, Started, Interface, Machine, Pool, KeyReused, UnknownToken, Commissioning, Deployed, Deploying, DiskErasing, New, Ready, blank_machine, Content, counted, done, machine_is, nothing, refused, script, stored, Signal, some_is, sender}, Refusing.IsRefusal, Step.Step, Laws.{AcceptsOnce, AcceptsWithOk, AlwaysWaitsForOne, AnswersAccepted, BootsLocally, CountsAnswerOnce, CountsOwnBoot, CountsStartedFirst, CountsVerdictOnce, DeploysRightly, EntersByTable, ErasesRightly, HasStatus, IsDeleted, IsMachineAt, IsSignalled, IsVersioned, KeepsMachines, NumbersOnce, QueuesAtEntries, RaisesVersions, RefusesWithoutChange, RepeatsFirst, SameInterfaces, ScriptIsAsked, WaitsNoMore, by_answer, by_command, by_deadline, by_fourth_boot, by_report, rises, stays}, Past.{AtEachStep, IsAccepted}, Worked.{ada, boot, came, command, mac, order, start, token}}, proofs.{Computing.computed, Day.{adds, boot_started, booted, booted_locally, commission_booted, commission_done, commissioned, deploy_script, deployed, erase_script, image_added, image_live, machine_added, made, new_machine, order_done, pow, power_added, ready, until_deployed}, DayLaws.{accepts, gives_deploying, gives_erasing, makes_machine}, FirstSteps.whole_step as step}}
use Rattle.hall_types.specs.{Rows.{at, numbers, texts}, declared.kinds.{OrderStage.TheVariants.Done as Ended, Outcome.TheVariants.Done as Turned}}
use Rattle.hall_types.specs.declared.kinds.Purpose.TheVariants as purpose
use Rattle.hall_types.specs.declared.kinds.Stage.TheVariants as stage
use Rattle.hall_events.specs.Reply.{reply_of}
use Rattle.hall_events.specs.declared.event.Event.TheVariants as event
use Rattle.boot_desk.specs.Texts.{hold_script, local_script}

-- what is a law of the steps up to one, and then that one, holds of it
last : (P : List Step → Step → Type 0) (past : List Step) (s : Step) → AtEachStep P (past ++ (s ∷ [])) → P past s
last P past s law = law past s [] refl

-- ---- scripts

asks : IsMachineAt booted_locally.step.before mac deployed
unfolding texts numbers
asks = record { interface = record { mac = mac; machine = 1 }; recorded = simp (computed); found = simp (computed) }

ready_asks : IsMachineAt commission_done.step.after mac ready
unfolding texts numbers
ready_asks = record { interface = record { mac = mac; machine = 1 }; recorded = simp (computed); found = simp (computed) }

one_machine : (h : Hall) (m n : Machine) → IsMachineAt h mac m → IsMachineAt h mac n → m ≡ n
one_machine h m n one other =
    some_is m n (sym one.found ∙ ap (λ (i : Interface). at h.machines i.machine) (some_is one.interface other.interface (sym one.recorded ∙ other.recorded)) ∙ other.found)

-- a script is given at a quiet moment
script_unasked : AtEachStep ScriptIsAsked (until_deployed ++ (step booted_locally.step.before (came event.Quiet) (made (script erase_script) []) ∷ [])) → ⊥
script_unasked law = let e = (last ScriptIsAsked until_deployed (step booted_locally.step.before (came event.Quiet) (made (script erase_script) [])) law erase_script refl).1.event in cc

not_held : script hold_script ≡ script (local_script Uefi64) → ⊥
unfolding hold_script local_script
not_held e = cc

-- a Deployed machine is told to hold
abbrev held : Step
held = step booted_locally.step.before (came (event.Script mac)) (made (script hold_script) [])

deployed_machine_is_held : AtEachStep BootsLocally (until_deployed ++ (held ∷ [])) → ⊥
deployed_machine_is_held law =
    not_held (last BootsLocally until_deployed held law mac deployed (script hold_script) (record { event = refl; answer = refl }) asks refl).0

-- a Deployed machine is told to erase its disks
abbrev erased : Step
erased = step booted_locally.step.before (came (event.Script mac)) (made (script erase_script) [])

deployed_machine_is_erased : AtEachStep ErasesRightly (until_deployed ++ (erased ∷ [])) → ⊥
deployed_machine_is_erased law =
    let right = last ErasesRightly until_deployed erased law mac erase_script (record { event = refl; answer = refl }) gives_erasing.2 in
    let apart : Deployed ≡ DiskErasing = ap (λ (m : Machine). m.status) (one_machine booted_locally.step.before deployed right.machine asks right.asks) ∙ right.status in
    cc

abbrev until_commissioned : List Step
until_commissioned = image_added.step ∷ image_live.step ∷ power_added.step ∷ machine_added.step ∷ commissioned.step ∷ []

abbrev until_booted : List Step
until_booted = until_commissioned ++ order_done.step ∷ commission_booted.step ∷ []

abbrev until_ready : List Step
until_ready = until_booted ++ boot_started.step ∷ commission_done.step ∷ []

-- a machine that is Ready is told to write an image to its disk
abbrev overwritten : Step
overwritten = step commission_done.step.after (came (event.Script mac)) (made (script deploy_script) [])

ready_machine_is_deployed : AtEachStep DeploysRightly (until_ready ++ (overwritten ∷ [])) → ⊥
ready_machine_is_deployed law =
    let right = last DeploysRightly until_ready overwritten law mac deploy_script (record { event = refl; answer = refl }) gives_deploying.2 in
    let apart : Ready ≡ Deploying = ap (λ (m : Machine). m.status) (one_machine commission_done.step.after ready right.machine ready_asks right.asks) ∙ right.status in
    cc

-- ---- reports

-- a step after which there is no boot 1, or the one that was issued
abbrev BootAfter : Step → Type 0
BootAfter s = (at s.after.boots 1 ≡ None) ⊎ (at s.after.boots 1 ≡ Some (boot 1 purpose.Commission stage.Offered))

boots_after : AllByRecursion BootAfter until_booted
unfolding numbers
boots_after =
    (inl (simp (computed)), (inl (simp (computed)), (inl (simp (computed)), (inl (simp (computed)), (inl (simp (computed)), (inl (simp (computed)), (inr (simp (computed)), tt)))))))

in_all : (P : Step → Type 0) (steps earlier later : List Step) (s : Step) → AllByRecursion P steps → steps ≡ earlier ++ (s ∷ later) → P s
in_all P steps earlier later s all are = by earlier (subst (AllByRecursion P) are all)
  where
    by : (earlier : List Step) → AllByRecursion P (earlier ++ (s ∷ later)) → P s
    by [] all = all.0
    by (x ∷ earlier) all = by earlier all.1

-- a report with another token counts
abbrev other_token : Step
other_token = step commission_booted.step.after (came (event.Report 1 (8 ∷ []) Started)) (made counted [])

report_with_other_token : AtEachStep CountsOwnBoot (until_booted ++ (other_token ∷ [])) → ⊥
report_with_other_token law =
    let own = last CountsOwnBoot until_booted other_token law 1 (8 ∷ []) Started (record { event = refl; answer = refl }) in
    let issue = own.3.issue in
    let is : at issue.step.after.boots 1 ≡ Some own.0 = ap (λ n. at issue.step.after.boots n) (sym own.1) ∙ own.3.is.after in
    elim (in_all BootAfter until_booted issue.earlier issue.later issue.step boots_after issue.are) [
      | inl none ↦ none-some own.0 (sym none ∙ is)
      | inr there ↦ differ (ap (λ (b : Boot). b.token) (some_is _ own.0 (sym there ∙ is)) ∙ own.2)
    ]
  where
    differ : token ≡ 8 ∷ [] → ⊥
    differ e = cc

-- a report that a boot has started counts after it was done
abbrev started_late : Step
started_late = step commission_done.step.after (came (event.Report 1 token Started)) (made counted [])

started_after_done : AtEachStep CountsStartedFirst (until_ready ++ (started_late ∷ [])) → ⊥
started_after_done law =
    (last CountsStartedFirst until_ready started_late law 1 (token, record { event = refl; answer = refl })).1.1.1.1.1.1.1.1.0 (Done, (token, record { event = refl; answer = refl }))

-- a verdict counts twice
abbrev done_twice : Step
done_twice = step commission_done.step.after (came (event.Report 1 token Done)) (made counted [])

verdict_twice : AtEachStep CountsVerdictOnce (until_ready ++ (done_twice ∷ [])) → ⊥
verdict_twice law =
    (last CountsVerdictOnce until_ready done_twice law 1 (inl (token, record { event = refl; answer = refl }))).1.1.1.1.1.1.1.1.0 (inl (token, record { event = refl; answer = refl }))

-- ---- numbers

-- a machine goes, and another one is given its number
abbrev gone : Step
gone = step commission_done.step.after (came event.Quiet) (made nothing (MachineGone 1 ∷ []))

abbrev number_again : Step
number_again = step gone.after (command 9 adds) (made (machine_is 1 New 1) (PutMachine new_machine None ∷ []))

number_twice : AtEachStep NumbersOnce (until_ready ++ gone ∷ number_again ∷ []) → ⊥
number_twice law =
    let none = (law (until_ready ++ (gone ∷ [])) number_again [] refl).machines 1
    (new_machine, at-gone-same commission_done.step.after.machines 1, at-put-same gone.after.machines 1 new_machine) in
    none.1.1.1.0 makes_machine

-- ---- entries

-- a report is refused, and its machine is Deployed
abbrev jumps : Step
jumps = step commission_booted.step.after (came (event.Report 1 token Done)) (made (refused KeyReused) (PutMachine deployed (Some 4) ∷ []))

was_booted : at jumps.before.machines 1 ≡ Some booted
unfolding numbers
was_booted = simp (computed)

is_deployed : at jumps.after.machines 1 ≡ Some deployed
unfolding numbers
is_deployed = simp (computed)

not_signalled : (m : Machine) (its : Signal) → IsSignalled 1 m jumps its → ⊥
not_signalled m its (by_command c) = let e = c.accepted.answered.event in cc
not_signalled m its (by_report c) = let e = c.counts.1.answer in cc
not_signalled m its (by_answer c) = let e = c.counts.1.event in cc
not_signalled m its (by_deadline c) = let e = c.quiet in cc
not_signalled m its (by_fourth_boot c) = let e = c.held.event in cc

deployed_by_refused_report : AtEachStep EntersByTable (until_booted ++ (jumps ∷ [])) → ⊥
deployed_by_refused_report law =
    elim (last EntersByTable until_booted jumps law 1 (deployed, is_deployed, differ)) [ inl made ↦ none-some booted (sym made.0 ∙ was_booted) | inr takes ↦ not_signalled takes.machine takes.signal takes.signalled ]
  where
    differ : (m : Machine) → at jumps.before.machines 1 ≡ Some m → m.status ≡ Deployed → ⊥
    differ m is same = let apart : Commissioning ≡ Deployed = ap (λ (n : Machine). n.status) (some_is booted m (sym was_booted ∙ is)) ∙ same in cc

-- ---- request keys

-- a command is accepted again with the same key
abbrev second_machine : Machine
second_machine = blank_machine 2 Uefi64 (codes "default") None

abbrev makes_second : ℕ → Content → Step
makes_second key content = step commission_done.step.after (command key adds) (made content (PutMachine second_machine None ∷ []))

abbrev acts_again : Step
acts_again = makes_second 4 (machine_is 2 New 1)

known : sender acts_again.before (Some ada.digest) ≡ Some ada
unfolding texts
known = simp (computed)

none_before : at acts_again.before.machines 2 ≡ None
unfolding numbers
none_before = simp (computed)

changes : acts_again.after ≢ acts_again.before
changes same = let e = sym (at-put-same acts_again.before.machines 2 second_machine) ∙ ap (λ (h : Hall). at h.machines 2) same ∙ none_before in cc

is_accepted : (key : ℕ) (content : Content) → (IsRefusal content → ⊥) → IsAccepted ada.name (key ∷ []) adds content (makes_second key content)
is_accepted key content not_refused = record {
  bearer = Some ada.digest;
  by = ada;
  known = known;
  named = refl;
  answered = record { event = refl; answer = refl };
  accepted = not_refused;
  changes = changes;
}

accepted_twice : AtEachStep AcceptsOnce (until_ready ++ (acts_again ∷ [])) → ⊥
accepted_twice law =
    (last AcceptsOnce until_ready acts_again law ada.name (4 ∷ []) (adds, machine_is 2 New 1, is_accepted 4 (machine_is 2 New 1) (λ refusal. let e = refusal.1 in cc))).1.1.1.0 (adds, machine_is 1 New 1, accepts)

repeated_key_acts_again : AtEachStep RepeatsFirst (until_ready ++ (acts_again ∷ [])) → ⊥
repeated_key_acts_again law =
    changes (last RepeatsFirst until_ready acts_again law ada.name (4 ∷ []) (record { command = adds; content = machine_is 1 New 1; accepted = inr (inr (inr (inl accepts))) })
    (record { bearer = Some ada.digest; by = ada; command = adds; content = machine_is 2 New 1; known = known; named = refl; answered = record { event = refl; answer = refl } })).1

-- a command is answered as if it were accepted, and nothing is written
abbrev only_said : Step
only_said = step start (command 9 adds) (made done [])

known_first : sender start (Some ada.digest) ≡ Some ada
unfolding texts
known_first = simp (computed)

says_ok : HasStatus 200 (reply_of second done)
unfolding reply_of
says_ok = refl

answered_unaccepted : AtEachStep AnswersAccepted (only_said ∷ []) → ⊥
answered_unaccepted law =
    let its = last AnswersAccepted [] only_said law ada.name (9 ∷ [])
    (record { bearer = Some ada.digest; by = ada; command = adds; content = done; known = known_first; named = refl; answered = record { event = refl; answer = refl } }) says_ok
    in elim its.first.accepted [ inl accepted ↦ accepted.changes refl | inr none ↦ absurd none ]

-- an accepted command is answered by another status
abbrev created : Step
created = makes_second 9 (stored 201 [])

other_status : HasStatus 200 (reply_of second (stored 201 [])) → ⊥
unfolding reply_of
other_status e = by 201 200 e refl refl
  where
    by : (a b : ℕ) → a ≡ b → a ≡ 201 → b ≡ 200 → ⊥
    by a b same one other = omega arith

accepted_with_created : AtEachStep AcceptsWithOk (until_ready ++ (created ∷ [])) → ⊥
accepted_with_created law =
    other_status (last AcceptsWithOk until_ready created law ada.name (9 ∷ []) adds (stored 201 []) (is_accepted 9 (stored 201 []) (λ refusal. let e = refusal.1 in cc)))

-- ---- orders

-- an order is queued at a quiet moment, while another one waits
abbrev queues : Step
queues = step commissioned.step.after (came event.Quiet) (made nothing (PutOrder (order 2 Waiting) ∷ []))

abbrev quiet_after : Step
quiet_after = step queues.after (came event.Quiet) (made nothing [])

first_waits : at queues.after.orders 1 ≡ Some (order 1 Waiting)
unfolding numbers
first_waits = simp (computed)

second_waits : at queues.after.orders 2 ≡ Some (order 2 Waiting)
unfolding numbers
second_waits = simp (computed)

no_second : at queues.before.orders 2 ≡ None
unfolding numbers
no_second = simp (computed)

two_orders_wait : AtEachStep AlwaysWaitsForOne (until_commissioned ++ queues ∷ quiet_after ∷ []) → ⊥
two_orders_wait law =
    let e = (law (until_commissioned ++ (queues ∷ [])) quiet_after [] refl).one 1 2 (order 1 Waiting) (order 2 Waiting) first_waits second_waits refl refl refl in cc

queued_at_quiet : AtEachStep QueuesAtEntries (until_commissioned ++ (queues ∷ [])) → ⊥
queued_at_quiet law =
    let entry = (last QueuesAtEntries until_commissioned queues law 2 (order 2 Waiting) no_second second_waits).entry in
    entry.2 entry.0 entry.1 refl

-- an order that was done waits again
abbrev waits_again : Step
waits_again = step order_done.step.after (came event.Quiet) (made nothing (PutOrder (order 1 Waiting) ∷ []))

was_ended : at waits_again.before.orders 1 ≡ Some (order 1 Ended)
unfolding numbers
was_ended = simp (computed)

done_order_waits : AtEachStep WaitsNoMore (until_commissioned ++ order_done.step ∷ waits_again ∷ []) → ⊥
done_order_waits law =
    law (until_commissioned ++ (order_done.step ∷ [])) waits_again [] refl 1 (order 1 Ended) (order 1 Waiting) was_ended (λ waits. cc) (at-put-same waits_again.before.orders 1 (order 1 Waiting)) refl

-- an answer to an order counts twice
abbrev answered_twice : Step
answered_twice = step order_done.step.after (came (event.OrderAnswer (Some pow.digest) 1 Turned)) (made counted [])

answer_twice : AtEachStep CountsAnswerOnce (until_commissioned ++ order_done.step ∷ answered_twice ∷ []) → ⊥
answer_twice law =
    (law (until_commissioned ++ (order_done.step ∷ [])) answered_twice [] refl 1 (Turned, (Some pow.digest, record { event = refl; answer = refl }))).0.1.1.1.1.1.0
    (Turned, (Some pow.digest, record { event = refl; answer = refl }))

-- ---- machines

was_ready : at gone.before.machines 1 ≡ Some ready
unfolding numbers
was_ready = simp (computed)

-- a machine is gone after a quiet moment
machine_vanishes : AtEachStep KeepsMachines (until_ready ++ (gone ∷ [])) → ⊥
machine_vanishes law = elim (last KeepsMachines until_ready gone law 1 ready was_ready) [ inl there ↦ none-some there.0 (sym (at-gone-same gone.before.machines 1) ∙ there.1) | inr deleted ↦ not_quiet deleted ]
  where
    not_quiet : IsDeleted 1 gone → ⊥
    not_quiet deleted = let e = deleted.accepted.answered.event in cc

-- ---- versions

was_same : (s : Step) → s.after.interfaces ≡ s.before.interfaces → SameInterfaces 1 s.before s.after
was_same s is mac i its = (λ there. ap (λ rows. at rows mac) is ∙ there, λ there. ap (λ rows. at rows mac) (sym is) ∙ there)

-- a version rises at a quiet moment, and nothing else changes
abbrev ready_again : Machine
ready_again = record ready { version = 6 }

abbrev rises_idly : Step
rises_idly = step commission_done.step.after (came event.Quiet) (made nothing (PutMachine ready_again (Some 5) ∷ []))

version_rises_idly : AtEachStep RaisesVersions (until_ready ++ (rises_idly ∷ [])) → ⊥
version_rises_idly law =
    by (last RaisesVersions until_ready rises_idly law 1 ready ready_again was_ready (at-put-same rises_idly.before.machines 1 ready_again))
  where
    by : IsVersioned 1 rises_idly.before rises_idly.after ready ready_again → ⊥
    by (stays row interfaces) = let e = ap (λ (m : Machine). m.version) row in cc
    by (rises version differ) = differ refl (was_same rises_idly refl)

-- a machine is locked, and its version stays
abbrev ready_locked : Machine
ready_locked = record ready { locked = true }

abbrev locks : Step
locks = step commission_done.step.after (came event.Quiet) (made nothing (PutMachine ready_locked (Some 5) ∷ []))

row_changes_unseen : AtEachStep RaisesVersions (until_ready ++ (locks ∷ [])) → ⊥
row_changes_unseen law =
    by (last RaisesVersions until_ready locks law 1 ready ready_locked was_ready (at-put-same locks.before.machines 1 ready_locked))
  where
    by : IsVersioned 1 locks.before locks.after ready ready_locked → ⊥
    by (stays row interfaces) = let e : true ≡ false = ap (λ (m : Machine). m.locked) row in cc
    by (rises version differ) = cc

-- a machine is given an interface, and its version stays
abbrev second_interface : Interface
second_interface = record { mac = 7 ∷ []; machine = 1 }

abbrev gives_interface : Step
gives_interface = step commission_done.step.after (came event.Quiet) (made nothing (PutInterface second_interface ∷ []))

no_second_interface : at gives_interface.before.interfaces second_interface.mac ≡ None
unfolding texts
no_second_interface = simp (computed)

interfaces_change_unseen : AtEachStep RaisesVersions (until_ready ++ (gives_interface ∷ [])) → ⊥
interfaces_change_unseen law = by (last RaisesVersions until_ready gives_interface law 1 ready ready was_ready was_ready)
  where
    by : IsVersioned 1 gives_interface.before gives_interface.after ready ready → ⊥
    by (stays row interfaces) =
        none-some second_interface (sym no_second_interface ∙ (interfaces second_interface.mac second_interface refl).1 (at-put-same gives_interface.before.interfaces second_interface.mac second_interface))
    by (rises version differ) = cc

-- ---- refusals

-- a refused request makes a pool
abbrev lab : Pool
lab = record { name = codes "lab" }

abbrev pool_made : Step
pool_made = step commission_done.step.after (came (event.Orders None)) (made (refused UnknownToken) (PutPool lab ∷ []))

no_lab : at pool_made.before.pools lab.name ≡ None
unfolding texts
no_lab = simp (computed)

refusal_changes : AtEachStep RefusesWithoutChange (until_ready ++ (pool_made ∷ [])) → ⊥
refusal_changes law =
    other (last RefusesWithoutChange until_ready pool_made law (refused UnknownToken) refl (inl (UnknownToken, refl)))
  where
    other : pool_made.after ≡ pool_made.before → ⊥
    other same = let e = sym (at-put-same pool_made.before.pools lab.name lab) ∙ ap (λ (h : Hall). at h.pools lab.name) same ∙ no_lab in cc
