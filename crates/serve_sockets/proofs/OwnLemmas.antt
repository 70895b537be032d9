-- What connections have, once they were taken out of slots and put into them.
use Rattle.std.{proofs.{Common.{◌≡◌, ◌≢◌, ◌<◌, ◌∙◌, ℕ, zero, suc, List, [], ◌∷◌, Option, Some, None, ap, arith, inl, inr, length, refl, subst, sym}, lemmas.Option.slice_get_within}, specs.Prelude.{◌⊎◌, IsTrue, is_some, option_map, slice_get, slice_set}}
use Rattle.serve_sockets.specs.{Prelude.{Answer, Request}, Connection.{KeepsAnswer, Waits, answer_of, input_of, is_answered, number_of}, Own.{AreAnswers, HasAnswer, IsAnswerTo, IsFreed, IsIn, IsInOrClosed, IsOut, IsPart, NoAnswers}, declared.connection.{Connection.Connection, Sending.Sending}}

-- ---- slots

pub is_same : (j k : ℕ) → (j ≡ k) ⊎ (j ≢ k)
is_same zero zero = inl refl
is_same zero (suc k) = inr (λ is. omega (arith, is))
is_same (suc j) zero = inr (λ is. omega (arith, is))
is_same (suc j) (suc k) = elim (is_same j k) [ inl is ↦ inl (ap suc is) | inr other ↦ inr (λ is. other (omega (arith, is))) ]

pub flipped : (j k : ℕ) → j ≢ k → k ≢ j
flipped j k other = λ is. other (sym is)

module _ {X : Type 0} where
  pub get_set_same : (xs : List X) (k : ℕ) (x : X) → k < length xs → slice_get (slice_set xs k x) k ≡ Some x
  get_set_same [] k x low = absurd (omega (arith, low))
  get_set_same (y ∷ ys) zero x low = refl
  get_set_same (y ∷ ys) (suc k) x low = get_set_same ys k x (omega (arith, low))

  pub get_set_twice : (xs : List X) (k : ℕ) (x y : X) → k < length xs → slice_get (slice_set (slice_set xs k x) k y) k ≡ Some y
  get_set_twice [] k x y low = absurd (omega (arith, low))
  get_set_twice (z ∷ zs) zero x y low = refl
  get_set_twice (z ∷ zs) (suc k) x y low = get_set_twice zs k x y (omega (arith, low))

  pub get_set_other : (xs : List X) (k j : ℕ) (x : X) → j ≢ k → slice_get (slice_set xs k x) j ≡ slice_get xs j
  get_set_other [] k j x other = refl
  get_set_other (y ∷ ys) zero zero x other = absurd (other refl)
  get_set_other (y ∷ ys) zero (suc j) x other = refl
  get_set_other (y ∷ ys) (suc k) zero x other = refl
  get_set_other (y ∷ ys) (suc k) (suc j) x other = get_set_other ys k j x (λ is. other (ap suc is))

  pub length_set : (xs : List X) (k : ℕ) (x : X) → length (slice_set xs k x) ≡ length xs
  length_set [] k x = refl
  length_set (y ∷ ys) zero x = refl
  length_set (y ∷ ys) (suc k) x = ap suc (length_set ys k x)

  pub some_same : (x y : X) (o : Option X) → o ≡ Some x → o ≡ Some y → x ≡ y
  some_same x y o one other = cc

-- ---- no new answers

module _ {T : Type 0} where
  pub same_answers : (slots slots' : List (Option (Connection T))) → slots' ≡ slots → NoAnswers slots slots'
  same_answers slots slots' same = λ number octets a has. subst (λ (xs : List (Option (Connection T))). HasAnswer xs number octets a) same has

  pub answers_then : (slots mid slots' : List (Option (Connection T))) → NoAnswers slots mid → NoAnswers mid slots' → NoAnswers slots slots'
  answers_then slots mid slots' one other = λ number octets a has. one number octets a (other number octets a has)

  pub part_answers : (slots slots' : List (Option (Connection T))) → IsPart slots slots' → NoAnswers slots slots'
  part_answers slots slots' part = λ number octets a has. record {
    slot = has.slot;
    connection = has.connection;
    held = part has.slot has.connection has.held;
    numbered = has.numbered;
    asked = has.asked;
    answered = has.answered;
  }

  pub none_new : (slots slots' : List (Option (Connection T))) (IsOne : List ℕ → Answer → Type 0) → NoAnswers slots slots' → AreAnswers slots slots' IsOne
  none_new slots slots' IsOne none = λ number octets a has. inl (none number octets a has)

  pub part_same : (slots slots' : List (Option (Connection T))) → slots' ≡ slots → IsPart slots slots'
  part_same slots slots' same = λ k connection held. subst (λ (xs : List (Option (Connection T))). slice_get xs k ≡ Some (Some connection)) same held

  pub part_then : (slots mid slots' : List (Option (Connection T))) → IsPart slots mid → IsPart mid slots' → IsPart slots slots'
  part_then slots mid slots' one other = λ k connection held. one k connection (other k connection held)

  not_held : (connection : Connection T) (o : Option (Option (Connection T))) → o ≡ Some None → o ≡ Some (Some connection) → ⊥
  not_held connection o none some = absurd cc

  -- what is left where a slot was made free
  free_part : (slots : List (Option (Connection T))) (slot : ℕ) → IsPart slots (slice_set slots slot None)
  free_part slots slot = λ k connection held. elim (is_same k slot) [
    | inl is ↦ absurd (freed k connection held is)
    | inr other ↦ sym (get_set_other slots slot k None other) ∙ held
  ]
    where
      freed : (k : ℕ) (connection : Connection T) → slice_get (slice_set slots slot None) k ≡ Some (Some connection) → k ≡ slot → ⊥
      freed k connection held is =
          let here : slice_get (slice_set slots slot None) slot ≡ Some (Some connection) = subst (λ (j : ℕ). slice_get (slice_set slots slot None) j ≡ Some (Some connection)) is held in
          let low : slot < length slots = subst (λ (n : ℕ). slot < n) (length_set slots slot None) (slice_get_within (slice_set slots slot None) slot (Some connection) here) in
          not_held connection _ (get_set_same slots slot None low) here

  pub set_free_part : (slots slots' : List (Option (Connection T))) (slot : ℕ) → slots' ≡ slice_set slots slot None → IsPart slots slots'
  set_free_part slots slots' slot is = subst (λ (xs : List (Option (Connection T))). IsPart slots xs) (sym is) (free_part slots slot)

  pub freed_part : (slots slots' : List (Option (Connection T))) → IsFreed slots slots' → IsPart slots slots'
  freed_part slots slots' (inl same) = part_same slots slots' same
  freed_part slots slots' (inr freed) = set_free_part slots slots' freed.0 freed.1

-- ---- a connection that is put into its slot again

module _ {T : Type 0} (slots mid slots' : List (Option (Connection T))) (slot : ℕ) (was connection : Connection T) (out : IsOut slots mid slot was) where
  pub put_there : IsIn mid slots' slot connection → slice_get slots' slot ≡ Some (Some connection)
  put_there put =
      rw (put, out.1) (get_set_twice slots slot None (Some connection) (slice_get_within slots slot (Some was) out.0))

  put_elsewhere : IsIn mid slots' slot connection → (k : ℕ) → k ≢ slot → slice_get slots' k ≡ slice_get slots k
  put_elsewhere put k other =
      rw (put, out.1) (get_set_other (slice_set slots slot None) slot k (Some connection) other ∙ get_set_other slots slot k None other)

  -- it has the answer that it had
  pub put_kept : number_of connection ≡ number_of was → KeepsAnswer was connection → IsInOrClosed mid slots' slot connection → NoAnswers slots slots'
  put_kept numbered keeps (inr closed) = part_answers slots slots' (set_free_part slots slots' slot (closed ∙ out.1))
  put_kept numbered keeps (inl put) = λ number octets a has. elim (is_same has.slot slot) [
    | inl is ↦ here number octets a has is
    | inr other ↦ record {
      slot = has.slot;
      connection = has.connection;
      held = sym (put_elsewhere put has.slot other) ∙ has.held;
      numbered = has.numbered;
      asked = has.asked;
      answered = has.answered;
    }
  ]
    where
      here : (number : ℕ) (octets : List ℕ) (a : Answer) (has : HasAnswer slots' number octets a) → has.slot ≡ slot → HasAnswer slots number octets a
      here number octets a has is =
          let own : has.connection ≡ connection =
          ap-some (subst (λ (k : ℕ). slice_get slots' k ≡ Some (Some has.connection)) is has.held) in
          let kept = keeps a (subst (λ (c : Connection T). answer_of c ≡ Some a) own has.answered) in
          record {
            slot = slot;
            connection = was;
            held = out.0;
            numbered = sym numbered ∙ subst (λ (c : Connection T). number_of c ≡ number) own has.numbered;
            asked = sym kept.1 ∙ subst (λ (c : Connection T). input_of c ≡ octets) own has.asked;
            answered = kept.0;
          }
        where
          ap-some : slice_get slots' slot ≡ Some (Some has.connection) → has.connection ≡ connection
          ap-some held = some_same has.connection connection (Some has.connection) refl (some_same (Some has.connection) (Some connection) (slice_get slots' slot) held (put_there put))

  -- it has the answer to the request that was read from its client
  pub put_answered : (octets : List ℕ) (said : Answer) → Waits connection octets said → IsIn mid slots' slot connection → IsAnswerTo slots slots' (Request octets) said
  put_answered octets said waits put = λ number asked a has. elim (is_same has.slot slot) [
    | inl is ↦ inr (here number asked a has is)
    | inr other ↦ inl (record {
      slot = has.slot;
      connection = has.connection;
      held = sym (put_elsewhere put has.slot other) ∙ has.held;
      numbered = has.numbered;
      asked = has.asked;
      answered = has.answered;
    })
  ]
    where
      here : (number : ℕ) (asked : List ℕ) (a : Answer) (has : HasAnswer slots' number asked a) → has.slot ≡ slot → (Request octets ≡ Request asked) × (said ≡ a)
      here number asked a has is =
          let held : slice_get slots' slot ≡ Some (Some has.connection) = subst (λ (k : ℕ). slice_get slots' k ≡ Some (Some has.connection)) is has.held in
          let own : has.connection ≡ connection =
          some_same has.connection connection (Some has.connection) refl (some_same (Some has.connection) (Some connection) (slice_get slots' slot) held (put_there put)) in (
            ap Request (sym waits.asked ∙ (ap input_of (sym own) ∙ has.asked)),
            some_same said a (answer_of connection) waits.answered (ap answer_of (sym own) ∙ has.answered),
          )

-- a connection that isn't answered has no answer
pub unanswered : {T : Type 0} (connection : Connection T) → ¬ IsTrue (is_answered connection) → answer_of connection ≡ None
unanswered connection not = none connection.sending not
  where
    none : (sending : Option Sending) → ¬ IsTrue (is_some sending) → option_map (λ s. s.answer) sending ≡ None
    none None not = refl
    none (Some sending) not = absurd (not refl)

-- a connection without an answer was put into a slot
pub new_unanswered : {T : Type 0} (slots slots' : List (Option (Connection T))) (slot : ℕ) (connection : Connection T) → slot < length slots → answer_of connection ≡ None
    → slots' ≡ slice_set slots slot (Some connection) → NoAnswers slots slots'
new_unanswered {T} slots slots' slot connection low none put = λ number octets a has. elim (is_same has.slot slot) [
  | inl is ↦ absurd (here number octets a has is)
  | inr other ↦ record {
    slot = has.slot;
    connection = has.connection;
    held = sym (ap (λ (xs : List (Option (Connection T))). slice_get xs has.slot) put ∙ get_set_other slots slot has.slot (Some connection) other) ∙ has.held;
    numbered = has.numbered;
    asked = has.asked;
    answered = has.answered;
  }
]
  where
    clash : (a : Answer) (o : Option Answer) → o ≡ None → o ≡ Some a → ⊥
    clash a o none some = absurd cc

    here : (number : ℕ) (octets : List ℕ) (a : Answer) (has : HasAnswer slots' number octets a) → has.slot ≡ slot → ⊥
    here number octets a has is =
        let held : slice_get slots' slot ≡ Some (Some has.connection) = subst (λ (k : ℕ). slice_get slots' k ≡ Some (Some has.connection)) is has.held in
        let there : slice_get slots' slot ≡ Some (Some connection) = ap (λ (xs : List (Option (Connection T))). slice_get xs slot) put ∙ get_set_same slots slot (Some connection) low in
        let own : has.connection ≡ connection = some_same has.connection connection (Some has.connection) refl (some_same (Some has.connection) (Some connection) (slice_get slots' slot) held there) in
        clash a (answer_of connection) none (ap answer_of (sym own) ∙ has.answered)
