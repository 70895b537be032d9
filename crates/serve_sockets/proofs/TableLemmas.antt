-- What slots hold, and the numbers of their connections.
use Rattle.std.{proofs.{Common.{◌≡◌, ◌<◌, ◌≤◌, ◌+◌, ◌-◌, ◌∙◌, ℕ, Bool, Bor, Fits, w64, true, false, cond, List, Option, Some, None, IfSome, replicate, suc, zero, count_by, is_some, nat_lt, not, ◌&&◌, length, slice_get, slice_index_or, slice_set, ap, arith, refl, subst, sym}, lemmas.{Bool.{ltb-true, ltb-false}, List.Sums.{count_by-le-length, sum_by-set}, Option.{slice_get_past, slice_get_read}}}, specs.{Int.from_bool, Option.{option_copied, unwrap_or}}}
use Rattle.serve_sockets.specs.{Table.{is_late_held, is_marked, late_at}, declared.connection.Connection.Connection}

-- of slots that are free none has a connection
pub none_open : (A : Type 0) (places : ℕ) → 0 ≡ count_by is_some (replicate {A = Option A} places None)
none_open A zero = refl
none_open A (suc places) = none_open A places

one_if : (b : Bool) → from_bool b ≡ cond b 1 0
one_if true = refl
one_if false = refl

at_most_one : (b : Bool) → from_bool b ≤ 1
at_most_one true = omega arith
at_most_one false = omega arith

-- what a look-up copied
pub copied_at : {X : Type 0} (xs : List X) (i : ℕ) (found : Option (Bor X)) → is_some found ≡ nat_lt i (length xs)
    → IfSome found (λ x. x.now ≡ slice_index_or xs i x.now) → option_copied found ≡ slice_get xs i
copied_at xs i None past read = sym (slice_get_past xs i (ltb-false i (length xs) (sym past)))
copied_at xs i (Some x) inside read = sym (slice_get_read xs (length xs) i x.now refl (ltb-true i (length xs) (sym inside)) read)

-- whether a seat is marked, as a look-up gave it
pub marked_at : (marks : List Bool) (i : ℕ) (found : Option (Bor Bool)) (copied : Option Bool) (is : Bool) → is_some found ≡ nat_lt i (length marks)
    → IfSome found (λ x. x.now ≡ slice_index_or marks i x.now) → copied ≡ option_copied found → is ≡ unwrap_or copied false → is ≡ is_marked marks i
marked_at marks i found copied is inside read same by = by ∙ ap (λ (o : Option Bool). unwrap_or o false) (same ∙ copied_at marks i found inside read)

module _ {T : Type 0} (slots : List (Option (Connection T))) where
  -- the connection of a slot is late by what the slot holds, where its seat isn't marked
  pub late_held : (marks : List Bool) (now slot : ℕ) (is late : Bool) (held : Option (Option (Connection T))) → is ≡ is_marked marks slot → slice_get slots slot ≡ held
      → is ≡ false → late ≡ is_late_held now held → late ≡ late_at slots marks now slot
  late_held marks now slot is late held marked there free same =
      same ∙ sym (ap (λ (b : Bool). not b && is_late_held now (slice_get slots slot)) (sym marked ∙ free) ∙ ap (is_late_held now) there)

  -- the connection of a slot isn't late where its seat is marked
  pub late_marked : (marks : List Bool) (now slot : ℕ) (is : Bool) → is ≡ is_marked marks slot → is ≡ true → not is ≡ late_at slots marks now slot
  late_marked marks now slot is marked held =
      ap not held ∙ sym (ap (λ (b : Bool). not b && is_late_held now (slice_get slots slot)) (sym marked ∙ held))

  count_set : (slot : ℕ) (held new : Option (Connection T)) → slot < length slots → held ≡ slice_index_or slots slot held
      → count_by is_some (slice_set slots slot new) + cond (is_some held) 1 0 ≡ count_by is_some slots + cond (is_some new) 1 0
  count_set slot held new inside at =
      let counts : Option (Connection T) → ℕ = λ x. cond (is_some x) 1 0 in
      subst (λ (x : Option (Connection T)). count_by is_some (slice_set slots slot new) + counts x ≡ count_by is_some slots + counts new) (sym at) (sum_by-set counts slots slot new held inside)

  -- how many connections there are once a slot holds another one, or none
  pub count_held : (taken slot more less : ℕ) (held new : Option (Connection T)) → slot < length slots → held ≡ slice_index_or slots slot held → taken ≡ count_by is_some slots
      → more ≡ from_bool (is_some new) → less ≡ from_bool (is_some held) → (less ≤ taken + more) × ((taken + more) - less ≡ count_by is_some (slice_set slots slot new))
  count_held taken slot more less held new inside at counted come gone =
      let change = count_set slot held new inside at in
      let more_is = come ∙ one_if (is_some new) in
      let less_is = gone ∙ one_if (is_some held) in
      (omega (arith, change, counted, more_is, less_is), omega (arith, change, counted, more_is, less_is))

  -- one more than are open still fits
  pub count_fits : (taken more : ℕ) (is : Bool) → taken ≡ count_by is_some slots → length slots ≤ 1024 → more ≡ from_bool is → Fits w64 (taken + more)
  count_fits taken more is counted few come =
      let within : count_by is_some slots ≤ length slots = count_by-le-length is_some slots in
      omega (arith, counted, few, within, come, at_most_one is)
