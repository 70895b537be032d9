-- A hall stays sound if only its operators, pools, members, images, live images and receipts change, and still have
-- what its machines refer to.
use Rattle.std.{specs.Prelude.{◌≡◌, ◌≢◌, ◌⊎◌, ⊤, ℕ, List, Option, Some, None, is_some, IsSome}, proofs.Common.{refl, sym, ap, subst, inl, inr, ◌∙◌}}
use Rattle.desk_command.specs.Prelude.{Hall, default_pool, pair, written, BootImage, IsKeyed, keyed-written, Keys, numbers, pairs, texts, Rows, at, put, gone, at-gone-other, put_cases, Live, Purpose, Machine, Member, Operator, Pool, Receipt, HasRow, HasRowIf, Work, class_of, image_for, IsSoundMachine, IsSound, has-put, some_of, image_named, row_at, view_of}
use Rattle.hall_types.specs.Kinds.{arch_number}
use Rattle.hall_types.specs.declared.change.RowWrite.TheVariants as write
use Rattle.hall_types.specs.declared.kinds.Purpose.TheVariants as purpose
use Rattle.boot_desk.specs.Views.{live_image}

-- ---- rows that stay or grow

-- each key still has a row, and each row was there before, or this holds of it
record Grown {K X : Type 0} {keys : Keys K} (P : X → Type 0) (before after : Rows keys X) : Type 0 where
  stay : (key : K) → HasRow before key → HasRow after key
  rows : (key : K) (x : X) → at after key ≡ Some x → (at before key ≡ Some x) ⊎ P x

module _ {K X : Type 0} {keys : Keys K} {P : X → Type 0} where
  same : {rows : Rows keys X} → Grown P rows rows
  same = record { stay = λ key has. has; rows = λ key x is. inl is }

  one_more : {rows : Rows keys X} (key : K) (row : X) → P row → Grown P rows (put key row rows)
  one_more {rows = rows} key row holds = record {
    stay = has-put rows key row;
    rows = λ other x is. elim (put_cases rows key row other x is) [ inl w ↦ inr (subst P (sym w.1) holds) | inr w ↦ inl w.1 ];
  }

  -- what holds of each row before, and of each new one, holds of each row
  each_grown : {before after : Rows keys X} → Grown P before after → (Q : X → Type 0) → ((key : K) (x : X) → at before key ≡ Some x → Q x) → ((x : X) → P x → Q x) → (key : K) (x : X) → at after key ≡ Some x → Q x
  each_grown grown Q old new key x is = elim (grown.rows key x is) [ inl w ↦ old key x w | inr w ↦ new x w ]

-- ---- other rows than those of machines

-- the hall with other operators, pools, members, images, live images and receipts
abbrev renewed : Hall → Rows texts Operator → Rows texts Pool → Rows pairs Member → Rows texts BootImage → Rows numbers Live → Rows pairs Receipt → Hall
renewed h operators pools members images lives receipts =
    record h { operators = operators; pools = pools; members = members; images = images; lives = lives; receipts = receipts }

-- images that are referred to stay
record KeepsImages (h : Hall) (images : Rows texts BootImage) : Type 0 where
  lives : (arch : ℕ) (l : Live) → at h.lives arch ≡ Some l → HasRow images l.image
  machines : (id : ℕ) (m : Machine) → at h.machines id ≡ Some m → HasRowIf images m.image

-- the other tables grow by rows whose references are to rows, and no two operators have one digest
record Renewed (h after : Hall) : Type 0 where
  operators : Grown (λ (o : Operator). ⊤) h.operators after.operators
  pools : Grown (λ (p : Pool). ⊤) h.pools after.pools
  members : Grown (λ (m : Member). HasRow after.pools m.pool × HasRow after.operators m.operator) h.members after.members
  images : KeepsImages h after.images
  lives : Grown (λ (l : Live). HasRow after.images l.image) h.lives after.lives
  receipts : Grown (λ (r : Receipt). HasRow after.operators r.operator) h.receipts after.receipts
  digests : (name other : List ℕ) (o p : Operator) → at after.operators name ≡ Some o → at after.operators other ≡ Some p → o.digest ≡ p.digest → name ≡ other

module _ (h : Hall) (operators : Rows texts Operator) (pools : Rows texts Pool) (members : Rows pairs Member) (images : Rows texts BootImage) (lives : Rows numbers Live) (receipts : Rows pairs Receipt) (s : IsSound h) (keyed : IsKeyed (renewed h operators pools members images lives receipts)) (new : Renewed h (renewed h operators pools members images lives receipts)) where
  abbrev after : Hall
  after = renewed h operators pools members images lives receipts

  has_live_before : (o : Option Live) → IsSome (image_named h o) → IsSome o
  has_live_before None is = is
  has_live_before (Some l) is = refl

  lives_have : (arch : ℕ) (l : Live) → at lives arch ≡ Some l → HasRow images l.image
  lives_have = each_grown new.lives (λ l. HasRow images l.image) new.images.lives (λ l has. has)

  live_after : (arch : ℕ) → IsSome (live_image h arch) → IsSome (live_image after arch)
  live_after arch is =
      let l = some_of (at lives arch) (new.lives.stay arch (has_live_before (at h.lives arch) is)) in
      ap (λ o. is_some (image_named after o)) l.1 ∙ lives_have arch l.0 l.1

  own_after : (o : Option (List ℕ)) → HasRowIf images o → IsSome (row_at h.images o) → IsSome (row_at images o)
  own_after None has is = is
  own_after (Some name) has is = has name refl

  image_after : (p : Purpose) (m : Machine) → HasRowIf images m.image → IsSome (image_for p (view_of h m)) → IsSome (image_for p (view_of after m))
  image_after purpose.Deploy m has is = own_after m.image has is
  image_after other m has is = live_after (arch_number m.arch) is

  machine_after : (id : ℕ) (m : Machine) → at h.machines id ≡ Some m → IsSoundMachine (view_of after m)
  machine_after id m is =
      let image : (p : Purpose) → class_of m ≡ Work p → IsSome (image_for p (view_of after m)) = λ p works. image_after p m (new.images.machines id m is) ((s.machines id m is).image p works) in
      assumption (image, s.machines id m is)

  renewed_sound : IsSound after
  renewed_sound =
      let machine_pools : (id : ℕ) (m : Machine) → at h.machines id ≡ Some m → HasRow pools m.pool = λ id m is. new.pools.stay m.pool (s.machine_pools id m is) in
      let machine_owners : (id : ℕ) (m : Machine) → at h.machines id ≡ Some m → HasRowIf operators m.owner = λ id m is name owns. new.operators.stay name (s.machine_owners id m is name owns) in
      assumption (
        keyed,
        machine_pools,
        machine_owners,
        lives_have,
        machine_after,
        new.images,
        new.digests,
        new.pools.stay default_pool s.default,
        each_grown new.members (λ m. HasRow pools m.pool) (λ key m is. new.pools.stay m.pool (s.member_pools key m is)) (λ m has. has.0),
        each_grown new.members (λ m. HasRow operators m.operator) (λ key m is. new.operators.stay m.operator (s.member_operators key m is)) (λ m has. has.1),
        each_grown new.receipts (λ r. HasRow operators r.operator) (λ key r is. new.operators.stay r.operator (s.receipt_operators key r is)) (λ r has. has),
      )

-- ---- one row of another table

module _ (h : Hall) (s : IsSound h) where
  images_same : KeepsImages h h.images
  images_same = record { lives = s.live_images; machines = s.machine_images }

  pub pool_sound : (p : Pool) → IsSound (written (write.PutPool p) h)
  pool_sound p =
      renewed_sound h h.operators (put p.name p h.pools) h.members h.images h.lives h.receipts s (keyed-written (write.PutPool p) h s.keyed)
      (record { operators = same; pools = one_more p.name p tt; members = same; images = images_same; lives = same; receipts = same; digests = s.digests })

  pub member_sound : (m : Member) → HasRow h.pools m.pool → HasRow h.operators m.operator → IsSound (written (write.PutMember m) h)
  member_sound m pool operator =
      renewed_sound h h.operators h.pools (put (pair m.pool m.operator) m h.members) h.images h.lives h.receipts s (keyed-written (write.PutMember m) h s.keyed)
      (record { operators = same; pools = same; members = one_more (pair m.pool m.operator) m (pool, operator); images = images_same; lives = same; receipts = same; digests = s.digests })

  pub image_sound : (i : BootImage) → IsSound (written (write.PutImage i) h)
  image_sound i =
      renewed_sound h h.operators h.pools h.members (put i.name i h.images) h.lives h.receipts s (keyed-written (write.PutImage i) h s.keyed)
      (record { operators = same; pools = same; members = same; images = one_image_more; lives = same; receipts = same; digests = s.digests })
    where
      one_image_more : KeepsImages h (put i.name i h.images)
      one_image_more = record {
        lives = λ arch l is. has-put h.images i.name i l.image (s.live_images arch l is);
        machines = λ id m is name its. has-put h.images i.name i name (s.machine_images id m is name its);
      }

  pub live_sound : (l : Live) → HasRow h.images l.image → IsSound (written (write.PutLive l) h)
  live_sound l image =
      renewed_sound h h.operators h.pools h.members h.images (put (arch_number l.arch) l h.lives) h.receipts s (keyed-written (write.PutLive l) h s.keyed)
      (record { operators = same; pools = same; members = same; images = images_same; lives = one_more (arch_number l.arch) l image; receipts = same; digests = s.digests })

  -- a receipt of an operator who is recorded
  pub receipt_sound : (r : Receipt) → HasRow h.operators r.operator → IsSound (written (write.PutReceipt r) h)
  receipt_sound r operator =
      renewed_sound h h.operators h.pools h.members h.images h.lives (put (pair r.operator r.key) r h.receipts) s (keyed-written (write.PutReceipt r) h s.keyed)
      (record { operators = same; pools = same; members = same; images = images_same; lives = same; receipts = one_more (pair r.operator r.key) r operator; digests = s.digests })

  -- an operator whose digest no other operator has
  pub operator_sound : (o : Operator) → ((name : List ℕ) (p : Operator) → at h.operators name ≡ Some p → p.digest ≡ o.digest → name ≡ o.name) → IsSound (written (write.PutOperator o) h)
  operator_sound o alone =
      renewed_sound h (put o.name o h.operators) h.pools h.members h.images h.lives h.receipts s (keyed-written (write.PutOperator o) h s.keyed)
      (record { operators = one_more o.name o tt; pools = same; members = same; images = images_same; lives = same; receipts = same; digests = digests })
    where
      digests : (name other : List ℕ) (a b : Operator) → at (put o.name o h.operators) name ≡ Some a → at (put o.name o h.operators) other ≡ Some b → a.digest ≡ b.digest → name ≡ other
      digests name other a b is_a is_b same = elim (put_cases h.operators o.name o name a is_a) [
        | inl w ↦ elim (put_cases h.operators o.name o other b is_b) [
          | inl z ↦ w.0 ∙ sym z.0
          | inr z ↦ w.0 ∙ sym (alone other b z.1 (sym same ∙ ap (λ (x : Operator). x.digest) w.1))
        ]
        | inr w ↦ elim (put_cases h.operators o.name o other b is_b) [
          | inl z ↦ alone name a w.1 (same ∙ ap (λ (x : Operator). x.digest) z.1) ∙ sym z.0
          | inr z ↦ s.digests name other a b w.1 z.1 same
        ]
      ]

  -- an image goes that no live image and no machine refers to
  pub image_gone_sound : (name : List ℕ) → ((arch : ℕ) (l : Live) → at h.lives arch ≡ Some l → l.image ≢ name) → ((id : ℕ) (m : Machine) → at h.machines id ≡ Some m → m.image ≢ Some name)
      → IsSound (written (write.ImageGone name) h)
  image_gone_sound name no_live no_machine =
      renewed_sound h h.operators h.pools h.members (gone name h.images) h.lives h.receipts s (keyed-written (write.ImageGone name) h s.keyed)
      (record { operators = same; pools = same; members = same; images = image_gone; lives = same; receipts = same; digests = s.digests })
    where
      stays : (key : List ℕ) → key ≢ name → HasRow h.images key → HasRow (gone name h.images) key
      stays key apart has = ap (λ o. is_some o) (at-gone-other h.images name key apart) ∙ has

      image_gone : KeepsImages h (gone name h.images)
      image_gone = record {
        lives = λ arch l is. stays l.image (no_live arch l is) (s.live_images arch l is);
        machines = λ id m is key its. stays key (λ same. no_machine id m is (its ∙ ap (λ x. Some x) same)) (s.machine_images id m is key its);
      }
