-- Words and numbers are those of one kind each.
use Rattle.std.{specs.{Prelude.{◌≡◌, ◌↔◌, ◌==◌, ℕ, Bool, true, false, List, [], ◌∷◌, Some, if◌then◌else◌, find}, Str.bytes_eq}, proofs.{Common.{refl, sym, ap, ◌∙◌}, lemmas.{Bool.eqb-true, Slice.Eq.bytes_eq-Decides}}}
use Rattle.pxe_vendor.specs.declared.arch.Arch.{Arch, TheVariants.Bios}
use Rattle.hall_types.specs.{declared.{kinds.{Role.{Role, TheVariants.Admin}, Purpose.{Purpose, TheVariants.Commission}, Stage.{Stage, TheVariants.Offered}, OrderKind.{OrderKind, TheVariants.Cycle}, OrderStage.{OrderStage, TheVariants.Waiting}, Erase.{Erase, TheVariants.Quick}, Progress.{Progress, TheVariants.Started}, Outcome.{Outcome, TheVariants.Done}}, act.Act.Act, status.Status.{Status, TheVariants.New}}, Kinds.{with_number, arch_number, archs, role_number, roles, purpose_number, purposes, stage_number, stages, order_kind_number, order_kinds, order_stage_number, order_stages, erase_number, erases, with_text, role_text, role_of_text, erase_text, erase_of_text, progress_text, progress_of_text, progresses, outcome_text, outcome_of_text, outcomes}, Act.{act_of_text, act_text, acts}, Status.{statuses, status_number}}
use Rattle.hall_types.specs.declared.act.Act.TheVariants as act

module _ {K : Type 0} where
  found : (p : K → Bool) (kinds : List K) (kind : K) → find p kinds ≡ Some kind → p kind ≡ true
  found p [] kind is = cc
  found p (one ∷ kinds) kind is = by (p one) refl is (found p kinds kind)
    where
      by : (b : Bool) → p one ≡ b → (if b then Some one else find p kinds) ≡ Some kind → (find p kinds ≡ Some kind → p kind ≡ true) → p kind ≡ true
      by true t same rest = let it : one ≡ kind = cc in ap p (sym it) ∙ t
      by false t later rest = rest later

  -- a word finds a kind if and only if it is that kind's
  exact_text : (text_of : K → List ℕ) (kinds : List K) (text : List ℕ) (kind : K) → with_text text_of (text_of kind) kinds ≡ Some kind
      → (with_text text_of text kinds ≡ Some kind) ↔ (text_of kind ≡ text)
  exact_text text_of kinds text kind again = (
    λ is. (bytes_eq-Decides (text_of kind) text).0 (found (λ kind. bytes_eq (text_of kind) text) kinds kind is),
    λ is. ap (λ text. with_text text_of text kinds) (sym is) ∙ again,
  )

  -- a number likewise
  exact_number : (number_of : K → ℕ) (kinds : List K) (number : ℕ) (kind : K) → with_number number_of (number_of kind) kinds ≡ Some kind
      → (with_number number_of number kinds ≡ Some kind) ↔ (number_of kind ≡ number)
  exact_number number_of kinds number kind again = (
    λ is. eqb-true (number_of kind) number (found (λ kind. number_of kind == number) kinds kind is),
    λ is. ap (λ number. with_number number_of number kinds) (sym is) ∙ again,
  )

pub role_by_text : (text : List ℕ) (k : Role) → (role_of_text text ≡ Some k) ↔ (role_text k ≡ text)
unfolding role_text
role_by_text text Admin = exact_text role_text roles text Admin refl
role_by_text text k = exact_text role_text roles text k refl

pub act_by_text : (text : List ℕ) (k : Act) → (act_of_text text ≡ Some k) ↔ (act_text k ≡ text)
unfolding act_text
act_by_text text act.Test = exact_text act_text acts text act.Test refl
act_by_text text k = exact_text act_text acts text k refl

pub erase_by_text : (text : List ℕ) (k : Erase) → (erase_of_text text ≡ Some k) ↔ (erase_text k ≡ text)
unfolding erase_text
erase_by_text text Quick = exact_text erase_text erases text Quick refl
erase_by_text text k = exact_text erase_text erases text k refl

pub progress_by_text : (text : List ℕ) (k : Progress) → (progress_of_text text ≡ Some k) ↔ (progress_text k ≡ text)
unfolding progress_text
progress_by_text text Started = exact_text progress_text progresses text Started refl
progress_by_text text k = exact_text progress_text progresses text k refl

pub outcome_by_text : (text : List ℕ) (k : Outcome) → (outcome_of_text text ≡ Some k) ↔ (outcome_text k ≡ text)
unfolding outcome_text
outcome_by_text text Done = exact_text outcome_text outcomes text Done refl
outcome_by_text text k = exact_text outcome_text outcomes text k refl

pub arch_by_number : (number : ℕ) (k : Arch) → (with_number arch_number number archs ≡ Some k) ↔ (arch_number k ≡ number)
unfolding arch_number
arch_by_number number Bios = exact_number arch_number archs number Bios refl
arch_by_number number k = exact_number arch_number archs number k refl

pub role_by_number : (number : ℕ) (k : Role) → (with_number role_number number roles ≡ Some k) ↔ (role_number k ≡ number)
unfolding role_number
role_by_number number Admin = exact_number role_number roles number Admin refl
role_by_number number k = exact_number role_number roles number k refl

pub purpose_by_number : (number : ℕ) (k : Purpose) → (with_number purpose_number number purposes ≡ Some k) ↔ (purpose_number k ≡ number)
unfolding purpose_number
purpose_by_number number Commission = exact_number purpose_number purposes number Commission refl
purpose_by_number number k = exact_number purpose_number purposes number k refl

pub stage_by_number : (number : ℕ) (k : Stage) → (with_number stage_number number stages ≡ Some k) ↔ (stage_number k ≡ number)
unfolding stage_number
stage_by_number number Offered = exact_number stage_number stages number Offered refl
stage_by_number number k = exact_number stage_number stages number k refl

pub order_kind_by_number : (number : ℕ) (k : OrderKind) → (with_number order_kind_number number order_kinds ≡ Some k) ↔ (order_kind_number k ≡ number)
unfolding order_kind_number
order_kind_by_number number Cycle = exact_number order_kind_number order_kinds number Cycle refl
order_kind_by_number number k = exact_number order_kind_number order_kinds number k refl

pub order_stage_by_number : (number : ℕ) (k : OrderStage) → (with_number order_stage_number number order_stages ≡ Some k) ↔ (order_stage_number k ≡ number)
unfolding order_stage_number
order_stage_by_number number Waiting = exact_number order_stage_number order_stages number Waiting refl
order_stage_by_number number k = exact_number order_stage_number order_stages number k refl

pub erase_by_number : (number : ℕ) (k : Erase) → (with_number erase_number number erases ≡ Some k) ↔ (erase_number k ≡ number)
unfolding erase_number
erase_by_number number Quick = exact_number erase_number erases number Quick refl
erase_by_number number k = exact_number erase_number erases number k refl

pub status_by_number : (number : ℕ) (k : Status) → (with_number status_number number statuses ≡ Some k) ↔ (status_number k ≡ number)
unfolding status_number
status_by_number number New = exact_number status_number statuses number New refl
status_by_number number k = exact_number status_number statuses number k refl

pub ruleset by_text = (role_by_text, act_by_text, erase_by_text, progress_by_text, outcome_by_text)
