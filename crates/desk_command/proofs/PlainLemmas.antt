-- A hall stays sound with each command that names no machine, except for a new machine.
use Rattle.std.{specs.{Prelude.{◌≡◌, ℕ, Bool, true, false, List, [], ◌∷◌, Option, Some, None, Ok, is_some, option_map, if◌then◌else◌}, Str.bytes_eq}, proofs.{Common.{refl, ap}, lemmas.{Bool.both_ways, Slice.Eq.bytes_eq-Decides}}}
use Rattle.hall_types.specs.declared.change.RowWrite.TheVariants as write
use Rattle.desk_command.{specs.{Prelude.{Hall, applied, BootImage, is_image_used, operator_with_digest, image_unused, none_listed, row_cases, at, Role, Operator, done, IsSound}, AllowedLaws.none_is, Effect.{disabled, live_image}, Causes.image_arch}, proofs.{ActionLemmas.Keeps, OtherRowLemmas.{image_gone_sound, live_sound, operator_sound}}}

module _ (h : Hall) (s : IsSound h) where
  -- a new operator
  pub add_operator_sound : (name : List ℕ) (role : Role) (digest : List ℕ) → is_some (operator_with_digest h digest) ≡ false → IsSound (applied (write.PutOperator (record { name = name; role = role; digest = digest; enabled = true }) ∷ []) h)
  add_operator_sound name role digest free =
      operator_sound h s (record { name = name; role = role; digest = digest; enabled = true }) (λ other p is same. absurd (taken other p is same))
    where
      taken : (other : List ℕ) (p : Operator) → at h.operators other ≡ Some p → p.digest ≡ digest → ⊥
      taken other p is same =
          both_ways (bytes_eq p.digest digest) (none_listed h.operators (λ (x : Operator). bytes_eq x.digest digest) other p (none_is (operator_with_digest h digest) free) is)
          ((bytes_eq-Decides p.digest digest).1 same)

  -- an operator who is disabled
  pub disable_sound : (name : List ℕ) → Keeps h (disabled (at h.operators name))
  disable_sound name =
      row_cases (λ (o : Operator). o.name) h.operators s.keyed.operators name (λ x. Keeps h (disabled x)) tt (λ o key there. by o there o.enabled)
    where
      by : (o : Operator) → at h.operators o.name ≡ Some o → (b : Bool) → Keeps h (if b then Ok (write.PutOperator (record o { enabled = false }) ∷ [], done) else Ok ([], done))
      by o there true = operator_sound h s (record o { enabled = false }) (λ other p is same. s.digests other o.name p o is there same)
      by o there false = s

  -- an image that nothing refers to goes
  pub delete_image_sound : (name : List ℕ) → is_image_used h name ≡ false → IsSound (applied (write.ImageGone name ∷ []) h)
  delete_image_sound name unused = let none = image_unused h name unused in image_gone_sound h s name none.0 none.1

  -- an image becomes the live one of its architecture
  pub set_live_sound : (image : List ℕ) → Keeps h (live_image image (image_arch h image))
  set_live_sound image = by (at h.images image) refl
    where
      by : (o : Option BootImage) → at h.images image ≡ o → Keeps h (live_image image (option_map (λ (i : BootImage). i.arch) o))
      by None there = tt
      by (Some i) there = live_sound h s (record { arch = i.arch; image = image }) (ap (λ o. is_some o) there)
