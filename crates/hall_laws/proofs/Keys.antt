-- A request key stands for one command of its operator.
use Rattle.std.{proofs.{Common.{◌≡◌, ℕ, List, [], ◌∷◌, ◌++◌, refl, sym, ap, subst, ◌∙◌, inl, inr}, lemmas.{Bool.both_ways, Option.none-some, Slice.Eq.bytes_eq-Decides}}, specs.{Prelude.{Option, Some, None, Bool, true, false, Ok, Err, if◌then◌else◌}, Str.bytes_eq}}
use Rattle.hall_types.specs.Rows.{at, put}
use Rattle.hall_types.specs.declared.change.RowWrite.TheVariants as write
use Rattle.hall_events.specs.Reply.{reply_of}
use Rattle.hall_events.specs.declared.event.Event.TheVariants as event
use Rattle.desk_command.specs.{Command.{command_decision, repeated}, Effect.Effect}
use Rattle.hall_laws.{specs.{Prelude.{Site, applied_append, Hall, applied, pair, second, at-put-other, at-put-same, RowWrite, Operator, Receipt, KeyReused, UnknownToken, command_text, Content, done, machine_gone, machine_is, stored, HallCommand, IsSound, some_is, body_of, keyed, of_sender, receipt_of, sender}, Decision.{Decided, commanded, decision_of}, Step.{IsStep, Step}, HallLaws.same_receipts, Writes.{LeavesReceipt, Writes, WritesAll, is_command, is_done, with_receipt, without_receipt}, Laws.{AcceptsKey, AcceptsOnce, AcceptsWithOk, HasStatus, IsAnsweredAgain, RepeatsFirst, disabled, first_again, reused}, Past.{IsAccepted, SomeOf}}, proofs.{AnswerLemmas.came_so, Effects.{StepDoes, decided, did, missed, step_does}, Frame.{none_from, some_of_more}}}

-- ---- the receipts after a step

-- the receipts are as before, or a command left one where there was none
pub data ReceiptsMove (s : Step) (d : Decided) : Type 0 where
  same_keys : (is_command s.arrival.event ≡ true → s.after ≡ s.before) → s.after.receipts ≡ s.before.receipts → ReceiptsMove s d
  new_key : (own : List RowWrite) (x : LeavesReceipt s.before s.arrival.event own d) → s.after.receipts ≡ put (pair x.operator.name x.key) (receipt_of x.operator x.key x.command d.content) s.before.receipts → ReceiptsMove s d

-- a command leaves its receipt
pub receipt_put : (s : Step) (d : Decided) → s.after ≡ applied d.rows s.before → (own : List RowWrite) → Writes s.before s.arrival.event s.arrival.moment s.arrival.fresh own d.content
    → (x : LeavesReceipt s.before s.arrival.event own d) → s.after.receipts ≡ put (pair x.operator.name x.key) (receipt_of x.operator x.key x.command d.content) s.before.receipts
receipt_put s d after own w x =
    let r = receipt_of x.operator x.key x.command d.content in
    ap (λ (h : Hall). h.receipts) (after ∙ (ap (λ ws. applied ws s.before) x.rows_are ∙ applied_append own (write.PutReceipt r ∷ []) s.before))
    ∙ ap (put (pair x.operator.name x.key) r) (same_receipts s.before s.arrival.event s.arrival.moment s.arrival.fresh own d.content w)

pub receipts_move : (s : Step) (d : Decided) → s.after ≡ applied d.rows s.before → WritesAll s.before s.arrival.event s.arrival.moment s.arrival.fresh d → ReceiptsMove s d
receipts_move s d after (without_receipt none w) =
    same_keys (λ command. after ∙ ap (λ ws. applied ws s.before) (none command))
    (ap (λ (h : Hall). h.receipts) after ∙ same_receipts s.before s.arrival.event s.arrival.moment s.arrival.fresh d.rows d.content w)
receipts_move s d after (with_receipt own w x) = new_key own x (receipt_put s d after own w x)

-- ---- an accepted command

same_command : (b c : Option (List ℕ)) (k l : List ℕ) (x y : HallCommand) → event.Command b k x ≡ event.Command c l y → (b ≡ c) × (k ≡ l) × (x ≡ y)
same_command b c k l x y e = (cc, cc, cc)

-- what an accepted command left
pub record Left (name key : List ℕ) (command : HallCommand) (content : Content) (s : Step) : Type 0 where
  pub operator : Operator
  pub named : operator.name ≡ name
  pub new : at s.before.receipts (pair name key) ≡ None
  pub says : is_done content ≡ true
  pub there : at s.after.receipts (pair name key) ≡ Some (receipt_of operator key command content)

accepted_left : (s : Step) → StepDoes s → (name key : List ℕ) (command : HallCommand) (content : Content) → IsAccepted name key command content s → Left name key command content s
accepted_left s (missed answer after) name key command content a = absurd (a.changes after)
accepted_left s (did answer after writes effect) name key command content a = by (receipts_move s (decided s) after writes)
  where
    by : ReceiptsMove s (decided s) → Left name key command content s
    by (same_keys quiet same) = absurd (a.changes (quiet (ap is_command a.answered.event)))
    by (new_key own x move) =
        let same = same_command x.bearer a.bearer x.key key x.command command (sym x.event_is ∙ a.answered.event) in
        let operator : x.operator ≡ a.by = some_is x.operator a.by (sym x.sender_is ∙ (ap (sender s.before) same.0 ∙ a.known)) in
        let named : x.operator.name ≡ name = ap (λ (o : Operator). o.name) operator ∙ a.named in
        let at_key : pair x.operator.name x.key ≡ pair name key = ap (λ n. pair n x.key) named ∙ ap (pair name) same.1 in
        let says : (decided s).content ≡ content = some_is (decided s).content content (sym answer ∙ a.answered.answer) in
        record {
          operator = x.operator;
          named = named;
          new = ap (at s.before.receipts) (sym at_key) ∙ x.new;
          says = ap is_done (sym says) ∙ x.says;
          there =
              ap (at s.after.receipts) (sym at_key)
              ∙ (ap (λ rows. at rows (pair x.operator.name x.key)) move
              ∙ (at-put-same s.before.receipts (pair x.operator.name x.key) (receipt_of x.operator x.key x.command (decided s).content)
              ∙ (ap (λ k. Some (receipt_of x.operator k x.command (decided s).content)) same.1
              ∙ (ap (λ c. Some (receipt_of x.operator key c (decided s).content)) same.2
              ∙ ap (λ c. Some (receipt_of x.operator key command c)) says))));
        }

-- a receipt stays
receipt_stays : (s : Step) → StepDoes s → (key : List (List ℕ)) (r : Receipt) → at s.before.receipts key ≡ Some r → at s.after.receipts key ≡ Some r
receipt_stays s (missed answer after) key r is = ap (λ (h : Hall). at h.receipts key) after ∙ is
receipt_stays s (did answer after writes effect) key r is = by (receipts_move s (decided s) after writes)
  where
    by : ReceiptsMove s (decided s) → at s.after.receipts key ≡ Some r
    by (same_keys quiet same) = ap (λ rows. at rows key) same ∙ is
    by (new_key own x move) =
        ap (λ rows. at rows key) move
        ∙ (at-put-other s.before.receipts (pair x.operator.name x.key) (receipt_of x.operator x.key x.command (decided s).content) key (λ same. none-some r (sym x.new ∙ (ap (at s.before.receipts) (sym same) ∙ is))) ∙ is)

-- the answer that a receipt keeps is the first one
pub stored_same : (content : Content) → is_done content ≡ true → reply_of second (stored 200 (body_of (reply_of second content))) ≡ reply_of second content
unfolding reply_of
stored_same (machine_is id status version) is = refl
stored_same (machine_gone id) is = refl
stored_same done is = refl
stored_same other is = cc

-- ---- the invariant

-- an accepted command has its receipt
pub record KeepsReceipts (past : List Step) (h : Hall) : Type 0 where
  pub any : (name key : List ℕ) → SomeOf (AcceptsKey name key) past → (r : Receipt) × (at h.receipts (pair name key) ≡ Some r)
  pub first : (name key : List ℕ) (command : HallCommand) (content : Content) → SomeOf (IsAccepted name key command content) past
      → (o : Operator) × (is_done content ≡ true) × (at h.receipts (pair name key) ≡ Some (receipt_of o key command content))

pub keys_step : (past : List Step) (s : Step) → IsStep s → IsSound s.before → IsSound s.after → KeepsReceipts past s.before → KeepsReceipts (past ++ (s ∷ [])) s.after
keys_step past s step sound later old =
    let does = step_does s step sound in
    record {
      any = λ name key some. elim (some_of_more (AcceptsKey name key) past s some) [
        | inl was ↦ (let r = old.any name key was in (r.0, receipt_stays s does (pair name key) r.0 r.1))
        | inr now ↦ (let l = accepted_left s does name key now.0 now.1 now.2 in (receipt_of l.operator key now.0 now.1, l.there))
      ];
      first = λ name key command content some. elim (some_of_more (IsAccepted name key command content) past s some) [
        | inl was ↦ (let r = old.first name key command content was in (r.0, r.1, receipt_stays s does (pair name key) (receipt_of r.0 key command content) r.2))
        | inr now ↦ (let l = accepted_left s does name key command content now in (l.operator, l.says, l.there))
      ];
    }

pub accepts_once : (past : List Step) (s : Step) → IsStep s → IsSound s.before → KeepsReceipts past s.before → AcceptsOnce past s
accepts_once past s step sound old name key a =
    let l = accepted_left s (step_does s step sound) name key a.0 a.1 a.2 in
    none_from (AcceptsKey name key) past (λ some. let r = old.any name key some in none-some r.0 (sym l.new ∙ r.1))

-- ---- a later request

module _ (h : Hall) (bearer : Option (List ℕ)) (o : Operator) (key : List ℕ) (first command : HallCommand) (content : Content) (moment : ℕ) (kept : Operator) (says : is_done content ≡ true) where
  abbrev Again : Effect → Type 0
  Again e = IsAnsweredAgain second o first content command (commanded e).content × ((commanded e).rows ≡ [])

  repeated_again : o.enabled ≡ true → Again (repeated (receipt_of kept key first content) command)
  repeated_again enabled = by (bytes_eq (command_text first) (command_text command)) refl
    where
      by : (b : Bool) → bytes_eq (command_text first) (command_text command) ≡ b → Again (if b then Ok ([], stored 200 (body_of (reply_of second content))) else Err KeyReused)
      by true same = (first_again enabled (sym ((bytes_eq-Decides (command_text first) (command_text command)).0 same)) (stored_same content says), refl)
      by false same = (reused enabled (λ e. both_ways (bytes_eq (command_text first) (command_text command)) same ((bytes_eq-Decides (command_text first) (command_text command)).1 (sym e))) refl, refl)

  sender_again : at h.receipts (pair o.name key) ≡ Some (receipt_of kept key first content) → Again (of_sender h (Some o) key command moment)
  sender_again there = by o.enabled refl
    where
      by : (b : Bool) → o.enabled ≡ b → Again (if b then keyed h o (at h.receipts (pair o.name key)) key command moment else Err UnknownToken)
      by true enabled = subst (λ r. Again (keyed h o r key command moment)) (sym there) (repeated_again enabled)
      by false enabled = (disabled enabled refl, refl)

  decision_again : sender h bearer ≡ Some o → at h.receipts (pair o.name key) ≡ Some (receipt_of kept key first content) → Again (command_decision h bearer key command moment)
  unfolding command_decision
  decision_again known there = subst (λ x. Again (of_sender h x key command moment)) (sym known) (sender_again there)

-- what the model makes of a command
pub command_of : (site : Site) (h : Hall) (bearer : Option (List ℕ)) (key : List ℕ) (command : HallCommand) (moment : ℕ) (fresh : List ℕ) → decision_of site h (event.Command bearer key command) moment fresh ≡ commanded (command_decision h bearer key command moment)
unfolding decision_of
command_of site h bearer key command moment fresh = refl

pub repeats_first : (past : List Step) (s : Step) → IsStep s → IsSound s.before → KeepsReceipts past s.before → RepeatsFirst past s
repeats_first past s step sound old name key first later =
    let o = later.by in
    let came = came_so s (event.Command later.bearer key later.command) later.content step later.answered in
    let kept = old.first name key first.command first.content first.accepted in
    let there : at s.before.receipts (pair o.name key) ≡ Some (receipt_of kept.0 key first.command first.content) = ap (λ n. at s.before.receipts (pair n key)) later.named ∙ kept.2 in
    let its = decision_again s.before later.bearer o key first.command later.command first.content s.arrival.moment kept.0 kept.1 later.known there in
    let is = command_of s.arrival.site s.before later.bearer key later.command s.arrival.moment s.arrival.fresh in (
      subst (IsAnsweredAgain second o first.command first.content later.command) (ap (λ (d : Decided). d.content) (sym is) ∙ came.content_is) its.0,
      came.after ∙ ap (λ ws. applied ws s.before) (ap (λ (d : Decided). d.rows) is ∙ its.1),
    )

pub new_keys : (h : Hall) → KeepsReceipts [] h
new_keys h = record { any = λ name key none. absurd none; first = λ name key command content none. absurd none }

-- ---- an accepted command is answered by the status 200

done_ok : (c : Content) → is_done c ≡ true → HasStatus 200 (reply_of second c)
unfolding reply_of
done_ok (machine_is id status version) is = refl
done_ok (machine_gone id) is = refl
done_ok done is = refl
done_ok other is = cc

pub accepts_with_ok : (past : List Step) (s : Step) → IsStep s → IsSound s.before → AcceptsWithOk past s
accepts_with_ok past s is sound operator key command content accepted = by (step_does s is sound)
  where
    by_writes : s.answer ≡ Some (decided s).content → s.after ≡ applied (decided s).rows s.before → WritesAll s.before s.arrival.event s.arrival.moment s.arrival.fresh (decided s) → HasStatus 200 (reply_of second content)
    by_writes answer after (without_receipt none w) =
        absurd (accepted.changes (after ∙ ap (λ rows. applied rows s.before) (none (ap is_command accepted.answered.event))))
    by_writes answer after (with_receipt own w x) =
        subst (λ c. HasStatus 200 (reply_of second c)) (some_is (decided s).content content (sym answer ∙ accepted.answered.answer)) (done_ok (decided s).content x.says)

    by : StepDoes s → HasStatus 200 (reply_of second content)
    by (missed answer same) = absurd (accepted.changes same)
    by (did answer after writes effect) = by_writes answer after writes
