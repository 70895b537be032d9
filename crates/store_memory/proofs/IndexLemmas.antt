-- The index of machines by UUID.
use Rattle.std.{proofs.{Common.{◌≡◌, ◌≢◌, ◌⊎◌, inl, inr, if◌then◌else◌, Bool, ℕ, List, Option, Some, None, true, false, refl, sym, ap, ◌∙◌}, lemmas.{Bool.both_ways, Slice.Eq.bytes_eq-Decides}}, specs.{Prelude.option_map, Str.bytes_eq}}
use Rattle.hall_types.specs.Rows.{at}
use Rattle.store_memory.specs.{Prelude.{Hall, StandUnder, has_uuid, machine_with_uuid, found_listed, none_listed, gone, put, at-gone-other, at-put-other, at-put-same, gone_found, put_cases, Machine}, Hashed.{Hashed, entry_at}, Held.{IsIndex, SetsEntry, uuid_of}}

-- a UUID that is found is recorded
pub has_recorded : (its : Option (List ℕ)) (uuid : List ℕ) → has_uuid its uuid ≡ true → its ≡ Some uuid
has_recorded None uuid is = cc
has_recorded (Some u) uuid is = ap (λ x. Some x) ((bytes_eq-Decides u uuid).0 is)

module _ (index : Hashed (List ℕ) ℕ) (h : Hall) (under : StandUnder (λ m. m.id) h.machines) (its : IsIndex index h.machines) (uuid : List ℕ) where
  by : (found : Option Machine) → machine_with_uuid h uuid ≡ found → (entry : Option ℕ) → entry_at bytes_eq index uuid ≡ entry → entry ≡ option_map (λ m. m.id) found
  by None none None e = refl
  by None none (Some id) e =
      let there = (its uuid id).0 e in
      absurd (both_ways (has_uuid there.0.uuid uuid)
      (none_listed h.machines (λ m. has_uuid m.uuid uuid) id there.0 none there.1)
      (ap (λ u. has_uuid u uuid) there.2 ∙ (bytes_eq-Decides uuid uuid).1 refl))
  by (Some m) some None e =
      let it = found_listed (λ m. m.id) h.machines under (λ m. has_uuid m.uuid uuid) m some in
      let there = (its uuid m.id).1 (m, it.0, has_recorded m.uuid uuid it.1) in
      cc
  by (Some m) some (Some id) e =
      let it = found_listed (λ m. m.id) h.machines under (λ m. has_uuid m.uuid uuid) m some in
      sym e ∙ (its uuid m.id).1 (m, it.0, has_recorded m.uuid uuid it.1)

  -- the index answers what a search of the machines does
  pub index_is : entry_at bytes_eq index uuid ≡ option_map (λ m. m.id) (machine_with_uuid h uuid)
  index_is = by (machine_with_uuid h uuid) refl (entry_at bytes_eq index uuid) refl

itself : (its : Option (List ℕ)) (uuid : List ℕ) → its ≡ Some uuid → has_uuid its uuid ≡ true
itself its uuid is = ap (λ u. has_uuid u uuid) is ∙ (bytes_eq-Decides uuid uuid).1 refl

-- ---- after a machine was put or went, which had a UUID before

module _ (index : Hashed (List ℕ) ℕ) (h : Hall) (key : ℕ) (was : Option Machine) (its : IsIndex index h.machines) (before : was ≡ at h.machines key) where
  -- an entry of another UUID is another machine's
  other_than_was : (uuid : List ℕ) (id : ℕ) → has_uuid (uuid_of was) uuid ≡ false → entry_at bytes_eq index uuid ≡ Some id
      → (x : Machine) × (id ≢ key) × (at h.machines id ≡ Some x) × (x.uuid ≡ Some uuid)
  other_than_was uuid id free found =
      let (x, there, has) = (its uuid id).0 found in
      let is_was : id ≡ key → uuid_of was ≡ Some uuid = λ same. ap uuid_of (before ∙ (ap (at h.machines) (sym same) ∙ there)) ∙ has in
      (x, λ same. both_ways (has_uuid (uuid_of was) uuid) free (itself (uuid_of was) uuid (is_was same)), there, has)

  -- no other machine has it
  not_was : (uuid : List ℕ) (id : ℕ) (x : Machine) → id ≢ key → at h.machines id ≡ Some x → x.uuid ≡ Some uuid → has_uuid (uuid_of was) uuid ≡ false
  not_was uuid id x other there has = by was refl (has_uuid (uuid_of was) uuid) refl
    where
      by : (w : Option Machine) → was ≡ w → (b : Bool) → has_uuid (uuid_of w) uuid ≡ b → b ≡ false
      by w is false u = refl
      by None is true u = cc
      by (Some y) is true u =
          let first = (its uuid id).1 (x, there, has) in
          let second = (its uuid key).1 (y, sym before ∙ is, has_recorded y.uuid uuid u) in
          let same : id ≡ key = cc in
          absurd (other same)

module _ (index mid new : Hashed (List ℕ) ℕ) (h : Hall) (m : Machine) (was : Option Machine) (its : IsIndex index h.machines)
    (before : was ≡ at h.machines m.id) (cleared : SetsEntry index mid (uuid_of was) None) (set : SetsEntry mid new m.uuid (Some m.id))
    (own : (id : ℕ) (other : Machine) (uuid : List ℕ) → at h.machines id ≡ Some other → other.uuid ≡ Some uuid → m.uuid ≡ Some uuid → id ≡ m.id) where
  to_row : (uuid : List ℕ) (id : ℕ) (a : Bool) → has_uuid m.uuid uuid ≡ a → (b : Bool) → has_uuid (uuid_of was) uuid ≡ b
      → (if a then Some m.id else (if b then None else entry_at bytes_eq index uuid)) ≡ Some id
      → (x : Machine) × (at (put m.id m h.machines) id ≡ Some x) × (x.uuid ≡ Some uuid)
  to_row uuid id true t b u e =
      let same : m.id ≡ id = cc in
      (m, ap (at (put m.id m h.machines)) (sym same) ∙ at-put-same h.machines m.id m, has_recorded m.uuid uuid t)
  to_row uuid id false t true u e = cc
  to_row uuid id false t false u e =
      let (x, other, there, has) = other_than_was index h m.id was its before uuid id u e in
      (x, at-put-other h.machines m.id m id other ∙ there, has)

  entry : (uuid : List ℕ) → entry_at bytes_eq new uuid ≡ (if has_uuid m.uuid uuid then Some m.id else (if has_uuid (uuid_of was) uuid then None else entry_at bytes_eq index uuid))
  entry uuid = set uuid ∙ ap (λ o. if has_uuid m.uuid uuid then Some m.id else o) (cleared uuid)

  from_row : (uuid : List ℕ) (id : ℕ) (x : Machine) → x.uuid ≡ Some uuid → ((id ≡ m.id) × (x ≡ m)) ⊎ ((id ≢ m.id) × (at h.machines id ≡ Some x)) → entry_at bytes_eq new uuid ≡ Some id
  from_row uuid id x has (inl same) =
      entry uuid
      ∙ (ap (λ b. if b then Some m.id else (if has_uuid (uuid_of was) uuid then None else entry_at bytes_eq index uuid)) (itself m.uuid uuid (ap (λ y. y.uuid) (sym same.1) ∙ has))
      ∙ ap (λ n. Some n) (sym same.0))
  from_row uuid id x has (inr other) =
      entry uuid
      ∙ (ap (λ b. if b then Some m.id else (if has_uuid (uuid_of was) uuid then None else entry_at bytes_eq index uuid)) (free (has_uuid m.uuid uuid) refl)
      ∙ (ap (λ b. if b then None else entry_at bytes_eq index uuid) (not_was index h m.id was its before uuid id x other.0 other.1 has)
      ∙ (its uuid id).1 (x, other.1, has)))
    where
      free : (b : Bool) → has_uuid m.uuid uuid ≡ b → has_uuid m.uuid uuid ≡ false
      free false t = t
      free true t = absurd (other.0 (own id x uuid other.1 has (has_recorded m.uuid uuid t)))

  pub index_put : IsIndex new (put m.id m h.machines)
  index_put uuid id = (
    λ found. to_row uuid id (has_uuid m.uuid uuid) refl (has_uuid (uuid_of was) uuid) refl (sym (entry uuid) ∙ found),
    λ there. from_row uuid id there.0 there.2 (put_cases h.machines m.id m id there.0 there.1),
  )

module _ (index new : Hashed (List ℕ) ℕ) (h : Hall) (key : ℕ) (was : Option Machine) (its : IsIndex index h.machines)
    (before : was ≡ at h.machines key) (cleared : SetsEntry index new (uuid_of was) None) where
  to_left : (uuid : List ℕ) (id : ℕ) (b : Bool) → has_uuid (uuid_of was) uuid ≡ b → (if b then None else entry_at bytes_eq index uuid) ≡ Some id
      → (x : Machine) × (at (gone key h.machines) id ≡ Some x) × (x.uuid ≡ Some uuid)
  to_left uuid id true u e = cc
  to_left uuid id false u e =
      let (x, other, there, has) = other_than_was index h key was its before uuid id u e in
      (x, at-gone-other h.machines key id other ∙ there, has)

  pub index_gone : IsIndex new (gone key h.machines)
  index_gone uuid id = (
    λ found. to_left uuid id (has_uuid (uuid_of was) uuid) refl (sym (cleared uuid) ∙ found),
    λ there.
        let left = gone_found h.machines key id there.0 there.1 in
        cleared uuid
        ∙ (ap (λ b. if b then None else entry_at bytes_eq index uuid) (not_was index h key was its before uuid id there.0 left.0 left.1 there.2)
        ∙ (its uuid id).1 (there.0, left.1, there.2)),
  )
