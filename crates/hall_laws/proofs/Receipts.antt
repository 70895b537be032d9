-- A command that is answered by the status 200 was accepted, now or before.
use Rattle.std.{proofs.{Common.{◌≡◌, ℕ, List, [], ◌∷◌, ◌++◌, refl, sym, ap, subst, ◌∙◌}, lemmas.Option.none-some}, specs.Prelude.{◌≢◌, ◌==◌, Option, Some, None, Bool, true, false, Ok, Err, if◌then◌else◌}}
use Rattle.hall_types.specs.{Refusal.refusal_row, Rows.{at, no_rows, pairs, put}}
use Rattle.hall_types.specs.declared.change.RowWrite.TheVariants as write
use Rattle.hall_types.specs.declared.refusal.Refusal.TheVariants as cause
use Rattle.hall_events.specs.Reply.{reply_of}
use Rattle.hall_events.specs.declared.event.Event.TheVariants as event
use Rattle.desk_command.specs.{Command.{command_decision, with_receipt as receipted}, Effect.{Effect, effect}, Causes.command_view}
use Rattle.hall_laws.{specs.{Prelude.{Hall, applied, new_hall, pair, second, refusal_status, same_key, at-no_rows, at-put, at-put-same, key-same, RowWrite, Operator, Receipt, Refusal, command_text, Content, refused, stored, HallCommand, IsSound, some_is, receipt_of, sender, command_cases}, Decision.{Decided, commanded, decision_of}, Step.{IsStep, Step}, Writes.{LeavesReceipt, WritesAll, is_command, is_done, with_receipt, without_receipt}, Laws.{AnswersAccepted, HasStatus, WasAccepted}, Past.{IsAccepted, SomeOf}}, proofs.{AnswerLemmas.{CameSo, came_so, was_accepted}, Effects.{StepDoes, decided, did, missed, step_does}, Frame.{some_before, some_now}, Keys.{ReceiptsMove, command_of, new_key, receipt_put, receipts_move, same_keys, stored_same}}}

-- ---- statuses

-- no refusal has the status 200
other_status : (why : Refusal) → (refusal_status why == 200) ≡ false
unfolding refusal_row
other_status cause.BadRequest = refl
other_status why = refl

refused_not_ok : (why : Refusal) → HasStatus 200 (reply_of second (refused why)) → ⊥
unfolding reply_of
refused_not_ok why is = let e = sym (ap (λ n. n == 200) is) ∙ other_status why in cc

abbrev IsOk : Content → Type 0
IsOk content = HasStatus 200 (reply_of second content)

-- ---- where each receipt comes from

-- the receipt of a command that is done
pub record IsReceiptOf (at_key : List (List ℕ)) (r : Receipt) : Type 0 where
  pub name : List ℕ
  pub key : List ℕ
  pub at_is : at_key ≡ pair name key
  pub operator : Operator
  pub command : HallCommand
  pub content : Content
  pub says : is_done content ≡ true
  pub is : r ≡ receipt_of operator key command content

-- an accepted command left the receipt
abbrev pub IsOfAccepted : List Step → List (List ℕ) → Receipt → Type 0
IsOfAccepted past at_key r = (x : IsReceiptOf at_key r) × SomeOf (IsAccepted x.name x.key x.command x.content) past

abbrev pub AllOfAccepted : List Step → Hall → Type 0
AllOfAccepted past h = (at_key : List (List ℕ)) (r : Receipt) → at h.receipts at_key ≡ Some r → IsOfAccepted past at_key r

later : (past : List Step) (s : Step) (at_key : List (List ℕ)) (r : Receipt) → IsOfAccepted past at_key r → IsOfAccepted (past ++ (s ∷ [])) at_key r
later past s at_key r it = (it.0, some_before (IsAccepted it.0.name it.0.key it.0.command it.0.content) past s it.1)

-- the hall is another once a receipt stands where none was
moved : (s : Step) (at_key : List (List ℕ)) (r : Receipt) → at s.before.receipts at_key ≡ None → s.after.receipts ≡ put at_key r s.before.receipts → s.after ≡ s.before → ⊥
moved s at_key r new move same =
    none-some r (sym new ∙ (ap (λ (h : Hall). at h.receipts at_key) (sym same) ∙ (ap (λ rows. at rows at_key) move ∙ at-put-same s.before.receipts at_key r)))

pub receipts_step : (past : List Step) (s : Step) → IsStep s → IsSound s.before → IsSound s.after → AllOfAccepted past s.before → AllOfAccepted (past ++ (s ∷ [])) s.after
receipts_step past s step sound after_sound old at_key r there = by (step_does s step sound)
  where
    by_put : (own : List RowWrite) → s.answer ≡ Some (decided s).content → (x : LeavesReceipt s.before s.arrival.event own (decided s))
        → s.after.receipts ≡ put (pair x.operator.name x.key) (receipt_of x.operator x.key x.command (decided s).content) s.before.receipts → IsOfAccepted (past ++ (s ∷ [])) at_key r
    by_put own answer x move = by_key (same_key pairs at_key (pair x.operator.name x.key)) refl
      where
        left : Receipt
        left = receipt_of x.operator x.key x.command (decided s).content

        is_put : (if same_key pairs at_key (pair x.operator.name x.key) then Some left else at s.before.receipts at_key) ≡ Some r
        is_put = sym (at-put s.before.receipts (pair x.operator.name x.key) left at_key) ∙ (sym (ap (λ rows. at rows at_key) move) ∙ there)

        by_key : (b : Bool) → same_key pairs at_key (pair x.operator.name x.key) ≡ b → IsOfAccepted (past ++ (s ∷ [])) at_key r
        by_key true same = (
          record {
            name = x.operator.name;
            key = x.key;
            at_is = key-same pairs at_key (pair x.operator.name x.key) same;
            operator = x.operator;
            command = x.command;
            content = (decided s).content;
            says = x.says;
            is = sym (some_is left r (subst (λ b. (if b then Some left else at s.before.receipts at_key) ≡ Some r) same is_put));
          },
          some_now (IsAccepted x.operator.name x.key x.command (decided s).content) past s
              (was_accepted s step x.sender_is refl (record { event = x.event_is; answer = answer }) (moved s (pair x.operator.name x.key) left x.new move)),
        )
        by_key false other = later past s at_key r (old at_key r (subst (λ b. (if b then Some left else at s.before.receipts at_key) ≡ Some r) other is_put))

    by_move : s.answer ≡ Some (decided s).content → ReceiptsMove s (decided s) → IsOfAccepted (past ++ (s ∷ [])) at_key r
    by_move answer (same_keys quiet same) = later past s at_key r (old at_key r (sym (ap (λ rows. at rows at_key) same) ∙ there))
    by_move answer (new_key own x move) = by_put own answer x move

    by : StepDoes s → IsOfAccepted (past ++ (s ∷ [])) at_key r
    by (missed answer same) = later past s at_key r (old at_key r (sym (ap (λ (h : Hall). at h.receipts at_key) same) ∙ there))
    by (did answer after writes effect) = by_move answer (receipts_move s (decided s) after writes)

-- a new hall has no receipt
pub no_receipts : (admin digest : List ℕ) → AllOfAccepted [] (new_hall second admin digest)
no_receipts admin digest at_key r there = absurd (none-some r (sym (at-no_rows pairs at_key no_rows refl) ∙ there))

-- ---- a request that is answered by the status 200, and writes nothing

-- it has a receipt, which is answered
record IsAgain (h : Hall) (name key : List ℕ) (command : HallCommand) (d : Decided) : Type 0 where
  receipt : Receipt
  there : at h.receipts (pair name key) ≡ Some receipt
  text : receipt.command ≡ command_text command
  content : d.content ≡ stored receipt.status receipt.body

module _ (h : Hall) (o : Operator) (key : List ℕ) (command : HallCommand) (moment : ℕ) where
  abbrev Again : Effect → Type 0
  Again e = IsOk (commanded e).content → (commanded e).rows ≡ [] → IsAgain h o.name key command (commanded e)

  no_append : (ws : List RowWrite) (w : RowWrite) → ws ++ (w ∷ []) ≡ [] → ⊥
  no_append [] w is = cc
  no_append (x ∷ ws) w is = cc

  by_effect : (by : Operator) (e : Effect) → Again (receipted by key command e)
  by_effect by (Ok decision) ok none = absurd (no_append decision.0 (write.PutReceipt (receipt_of by key command decision.1)) none)
  by_effect by (Err why) ok none = absurd (refused_not_ok why ok)

  asked_again : (bearer : Option (List ℕ)) → sender h bearer ≡ Some o → Again (command_decision h bearer key command moment)
  asked_again bearer known =
      command_cases h bearer key command moment Again (λ why ok none. absurd (refused_not_ok why ok))
      (λ by r sent there same ok none.
      let own : by ≡ o = some_is by o (sym sent ∙ known) in
      record { receipt = r; there = ap (λ (x : Operator). at h.receipts (pair x.name key)) (sym own) ∙ there; text = same; content = refl })
      (λ by sent enabled free causes. by_effect by (effect (command_view h by command) by command moment))

-- ---- the law

pub answers_accepted : (past : List Step) (s : Step) → IsStep s → IsSound s.before → AllOfAccepted past s.before → AnswersAccepted past s
answers_accepted past s step sound old operator key its ok = by (step_does s step sound)
  where
    came : CameSo s (event.Command its.bearer key its.command) its.content
    came = came_so s (event.Command its.bearer key its.command) its.content step its.answered

    model : decision_of s.arrival.site s.before (event.Command its.bearer key its.command) s.arrival.moment s.arrival.fresh ≡ commanded (command_decision s.before its.bearer key its.command s.arrival.moment)
    model = command_of s.arrival.site s.before its.bearer key its.command s.arrival.moment s.arrival.fresh

    now : s.after ≢ s.before → WasAccepted second operator key past s its
    now changes = record {
      first = record {
        command = its.command;
        content = its.content;
        accepted = some_now (IsAccepted operator key its.command its.content) past s (was_accepted s step its.known its.named its.answered changes);
      };
      command = refl;
      answer = refl;
    }

    before : IsAgain s.before its.by.name key its.command (commanded (command_decision s.before its.bearer key its.command s.arrival.moment)) → WasAccepted second operator key past s its
    before again =
        let (left, accepted) = old (pair its.by.name key) again.receipt again.there in
        let at_is = left.at_is in
        let same_name : left.name ≡ its.by.name = cc in
        let name : left.name ≡ operator = same_name ∙ its.named in
        let own : left.key ≡ key = cc in
        record {
          first = record {
            command = left.command;
            content = left.content;
            accepted = some_before (IsAccepted operator key left.command left.content) past s
                (subst (λ n. SomeOf (IsAccepted n key left.command left.content) past) name (subst (λ k. SomeOf (IsAccepted left.name k left.command left.content) past) own accepted));
          };
          command = sym again.text ∙ ap (λ (r : Receipt). r.command) left.is;
          answer =
              ap (reply_of second) (sym came.content_is ∙ (ap (λ (d : Decided). d.content) model ∙ again.content))
              ∙ (ap (λ (r : Receipt). reply_of second (stored r.status r.body)) left.is ∙ stored_same left.content left.says);
        }

    by_writes : s.answer ≡ Some (decided s).content → s.after ≡ applied (decided s).rows s.before → WritesAll s.before s.arrival.event s.arrival.moment s.arrival.fresh (decided s) → WasAccepted second operator key past s its
    by_writes answer after (without_receipt none w) =
        let event_is = its.answered.event in
        let rows : (commanded (command_decision s.before its.bearer key its.command s.arrival.moment)).rows ≡ [] =
        ap (λ (d : Decided). d.rows) (sym model)
        ∙ (ap (λ e. (decision_of s.arrival.site s.before e s.arrival.moment s.arrival.fresh).rows) (sym event_is) ∙ none (ap is_command event_is))
        in
        let good = subst IsOk (sym came.content_is ∙ ap (λ (d : Decided). d.content) model) ok in
        before (asked_again s.before its.by key its.command s.arrival.moment its.bearer its.known good rows)
    by_writes answer after (with_receipt own w x) =
        now (moved s (pair x.operator.name x.key) (receipt_of x.operator x.key x.command (decided s).content) x.new (receipt_put s (decided s) after own w x))

    by : StepDoes s → WasAccepted second operator key past s its
    by (missed answer same) = absurd (none-some its.content (sym answer ∙ its.answered.answer))
    by (did answer after writes effect) = by_writes answer after writes
