-- Why a script that erases in the first schema is given after a release with full erasing.
use Rattle.std.proofs.Common.{◌≡◌, ℕ, List, subst}
use Rattle.ipxe_script.specs.declared.command.Command.{Command}
use Rattle.hall_laws.{specs.{Prelude.{IsErasing, IsScript, spelling, Erase, ErasesBy}, Step.Step, Laws.{ErasesRightly, GivesScripts, IsReleaseErasing, IsRightlyErased}, Past.{AtEachStep, IsEntry}, FirstErasing.{ErasesFully, IsFullyErased}, FirstSchema.{plain, without_kind}}, proofs.{PlainScripts.{erasing_before, names_no_kind}, PlainSteps.{IsTwin, entry_back, entry_to, machine_at, release_full, release_to, text_of}, Twins.{AreTwins, asks_at, last_like, like_to, twins_like, twins_of}}}

fully : (past_whole past : List Step) (w s : Step) → AreTwins past_whole past → IsTwin w s → (mac : List ℕ) (commands whole : List Command) → commands ≡ plain whole
    → IsScript whole → IsRightlyErased mac whole past_whole w.before → IsFullyErased mac commands past s.before
fully past_whole past w s twins twin mac commands whole its is r =
    let id = r.machine.id in
    let l = last_like (IsEntry id) (λ w s t. entry_to w s t id) (λ w s t. entry_back w s t id) past_whole past (twins_like past_whole past twins) r.entry in
    let asks = asks_at r.entry.earlier r.entry.step r.entry.later past (subst (λ (steps : List Step). AreTwins steps past) r.entry.are twins) in
    record {
      machine = without_kind r.machine;
      asks = machine_at w.before s.before twin.plain.before mac r.machine r.asks;
      status = r.status;
      entry = l.last;
      release = subst (λ (kind : Erase). IsReleaseErasing id kind l.last.step) (release_full r.entry.step asks id r.kind r.release)
          (like_to (IsReleaseErasing id r.kind) (λ w s t. release_to w s t id r.kind) r.entry.step l.last.step l.like r.release);
      none = λ kind names. names_no_kind whole is kind (subst (ErasesBy kind) its names);
    }

pub erases_fully : (whole steps : List Step) → AreTwins whole steps → AtEachStep GivesScripts whole → AtEachStep ErasesRightly whole → AtEachStep ErasesFully steps
erases_fully whole steps twins scripts erasing past s later are mac commands gives erases =
    let t = twins_of whole past s later (subst (AreTwins whole) are twins) in
    let text = text_of t.step_whole s t.step_twin.plain mac commands gives in
    let is : IsScript text.whole = scripts t.past_whole t.step_whole t.later_whole t.are mac text.whole text.gives in
    let before : IsErasing (spelling text.whole) = erasing_before text.whole is (subst (λ (c : List Command). IsErasing (spelling c)) text.its erases) in
    fully t.past_whole past t.step_whole s t.past_twins t.step_twin mac commands text.whole text.its is
    (erasing t.past_whole t.step_whole t.later_whole t.are mac text.whole text.gives before)
