-- Joining the values of several codes in one pass.
use Rattle.std.{proofs.{Common.{◌≡◌, ℕ, List, [], ◌∷◌, Option, None, refl, inl, inr}, lemmas.Bool.{cases_eq, eq-eqb, ne_eqb}}, specs.Prelude.{◌==◌}}
use Rattle.dhcp_frame.specs.{Area.{Entry, value_of}, ValueLaws.{joined_then, joined_then-nothing, joined_then-more}}
use Rattle.pxe_vendor.specs.{Values.{values_of, push_if, pushed}, declared.values.Values.Values}

-- no value of a client
pub pushed-other : (v : Values) (code : ℕ) (value : List ℕ) → (code ≡ 53 → ⊥) → (code ≡ 60 → ⊥) → (code ≡ 93 → ⊥) → (code ≡ 43 → ⊥) → (code ≡ 97 → ⊥) → (code ≡ 77 → ⊥) → pushed v code value ≡ v
unfolding pushed push_if
pushed-other v code value a b c d e f =
    rw (ne_eqb code 53 a, ne_eqb code 60 b, ne_eqb code 93 c, ne_eqb code 43 d, ne_eqb code 97 e, ne_eqb code 77 f) refl

pub ruleset push_steps = (pushed-other)

-- ---- the pass

-- the values so far, and then those of the rest
unfoldable pub values_then : Values → Values → Values
values_then v rest = record {
  message_type = joined_then v.message_type rest.message_type;
  class = joined_then v.class rest.class;
  architectures = joined_then v.architectures rest.architectures;
  vendor = joined_then v.vendor rest.vendor;
  identifier = joined_then v.identifier rest.identifier;
  user_class = joined_then v.user_class rest.user_class;
}

joined_then-push_if : (wanted code : ℕ) (joined : Option (List ℕ)) (value : List ℕ) (es : List Entry) → joined_then (push_if (code == wanted) joined value) (value_of wanted es) ≡ joined_then joined (value_of wanted ((code, value) ∷ es))
unfolding push_if
joined_then-push_if wanted code joined value es =
    elim (cases_eq code wanted) [
      | inl is ↦ rw (eq-eqb code wanted is) (joined_then-more joined value (value_of wanted es))
      | inr other ↦ rw (ne_eqb code wanted other) refl
    ]

pub values_then-start : (v rest : Values) → v ≡ record { message_type = None; class = None; architectures = None; vendor = None; identifier = None; user_class = None } → values_then v rest ≡ rest
unfolding values_then joined_then
values_then-start v rest is = rw is refl

pub values_then-pushed : (v : Values) (code : ℕ) (value : List ℕ) (es : List Entry) → values_then (pushed v code value) (values_of es) ≡ values_then v (values_of ((code, value) ∷ es))
unfolding values_then pushed
values_then-pushed v code value es =
    rw (joined_then-push_if 53 code v.message_type value es, joined_then-push_if 60 code v.class value es, joined_then-push_if 93 code v.architectures value es, joined_then-push_if 43 code v.vendor value es, joined_then-push_if 97 code v.identifier value es, joined_then-push_if 77 code v.user_class value es) refl

pub values_then-end : (v : Values) → values_then v (values_of []) ≡ v
unfolding values_then
values_then-end v =
    rw (joined_then-nothing v.message_type, joined_then-nothing v.class, joined_then-nothing v.architectures, joined_then-nothing v.vendor, joined_then-nothing v.identifier, joined_then-nothing v.user_class) refl

pub ruleset values_steps = (values_then-start, values_then-pushed, values_then-end)
