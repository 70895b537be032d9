-- What the clients of a group are given.
use Rattle.std.{proofs.Common.{◌≡◌, ◌≢◌, arith, ◌⊎◌, ◌<◌, ◌∙◌, ℕ, suc, List, [], ◌∷◌, ◌++◌, Option, Some, None, map, take, ap, inl, inr, length, refl, subst, sym}, specs.{Prelude.{slice_get}, List.AllByRecursion}}
use Rattle.serve_sockets.specs.{Prelude.{TcpStream, Answer, Arrival, Request}, Connection.{answer_of, input_of}, Gathering.{AreApart, AreBack, AreGiven, AreHeld, AreIn, AreOf, AreOut, OthersStay}, Own.{AreOwn, HasAnswer, IsAnswerIn, IsBack, IsGiven, IsGivenIn, IsInOrClosed, IsPart, NoAnswers, first, later}, declared.{connection.Connection.Connection, gathering.Client.Client}}
use Rattle.serve_sockets.proofs.OwnLemmas.{flipped, get_set_other, get_set_same, is_same, some_same}

-- ---- clients, no two of which have one slot

pub apart_rest : (xs ys : List Client) → AreApart (xs ++ ys) → AreApart ys
apart_rest [] ys apart = apart
apart_rest (x ∷ xs) ys apart = apart_rest xs ys apart.1

all_first : (P : Client → Type 0) (xs ys : List Client) → AllByRecursion P (xs ++ ys) → AllByRecursion P xs
all_first P [] ys all = tt
all_first P (x ∷ xs) ys all = (all.0, all_first P xs ys all.1)

all_rest : (P : Client → Type 0) (xs ys : List Client) → AllByRecursion P (xs ++ ys) → AllByRecursion P ys
all_rest P [] ys all = all
all_rest P (x ∷ xs) ys all = all_rest P xs ys all.1

all_both : (P : Client → Type 0) (xs ys : List Client) → AllByRecursion P xs → AllByRecursion P ys → AllByRecursion P (xs ++ ys)
all_both P [] ys all more = more
all_both P (x ∷ xs) ys all more = (all.0, all_both P xs ys all.1 more)

-- the slot of one that comes after these is none of theirs
apart_before : (xs : List Client) (y : Client) (ys : List Client) → AreApart (xs ++ y ∷ ys) → AllByRecursion (λ x. x.slot ≢ y.slot) xs
apart_before [] y ys apart = tt
apart_before (x ∷ xs) y ys apart =
    (flipped y.slot x.slot (all_rest (λ other. other.slot ≢ x.slot) xs (y ∷ ys) apart.0).0, apart_before xs y ys apart.1)

-- the slots of those that come after these are none of theirs
apart_after : (xs ys : List Client) → AreApart (xs ++ ys) → AllByRecursion (λ y. AllByRecursion (λ x. x.slot ≢ y.slot) xs) ys
apart_after xs [] apart = tt
apart_after xs (y ∷ ys) apart = (apart_before xs y ys apart, more xs y ys (apart_after (xs ++ y ∷ []) ys (regrouped xs y ys apart)))
  where
    regrouped : (xs : List Client) (y : Client) (ys : List Client) → AreApart (xs ++ y ∷ ys) → AreApart ((xs ++ y ∷ []) ++ ys)
    regrouped xs y ys apart = subst AreApart (sym (appended xs y ys)) apart
      where
        appended : (xs : List Client) (y : Client) (ys : List Client) → (xs ++ y ∷ []) ++ ys ≡ xs ++ y ∷ ys
        appended [] y ys = refl
        appended (x ∷ xs) y ys = ap (λ zs. x ∷ zs) (appended xs y ys)

    more : (xs : List Client) (y : Client) (ys : List Client) → AllByRecursion (λ z. AllByRecursion (λ x. x.slot ≢ z.slot) (xs ++ y ∷ [])) ys
        → AllByRecursion (λ z. AllByRecursion (λ x. x.slot ≢ z.slot) xs) ys
    more xs y [] all = tt
    more xs y (z ∷ zs) all = (all_first (λ x. x.slot ≢ z.slot) xs (y ∷ []) all.0, more xs y zs all.1)

-- ---- slots that others leave alone

module _ (slots slots' : List (Option (Connection TcpStream))) where
  -- what holds of a slot of which nothing was changed
  agreed : (Is : Option (Option (Connection TcpStream)) → Type 0) (k : ℕ) → slice_get slots' k ≡ slice_get slots k → Is (slice_get slots k) → Is (slice_get slots' k)
  agreed Is k same it = subst Is (sym same) it

  pub still_out : (ys : List Client) → AllByRecursion (λ y. slice_get slots' y.slot ≡ slice_get slots y.slot) ys → AreOut slots ys → AreOut slots' ys
  still_out [] same out = tt
  still_out (y ∷ ys) same out = (same.0 ∙ out.0, still_out ys same.1 out.1)

  pub still_back : (ys : List Client) → AllByRecursion (λ y. slice_get slots' y.slot ≡ slice_get slots y.slot) ys → AreBack slots ys → AreBack slots' ys
  still_back [] same back = tt
  still_back (y ∷ ys) same back = (elim back.0 [ inl held ↦ inl (same.0 ∙ held) | inr free ↦ inr (same.0 ∙ free) ], still_back ys same.1 back.1)

  pub still_held : (ys : List Client) (answers : List Answer) → AllByRecursion (λ y. slice_get slots' y.slot ≡ slice_get slots y.slot) ys → AreHeld slots ys answers → AreHeld slots' ys answers
  still_held [] [] same held = tt
  still_held [] (a ∷ answers) same held = absurd held
  still_held (y ∷ ys) [] same held = absurd held
  still_held (y ∷ ys) (a ∷ answers) same held =
      (record { connection = held.0.connection; held = same.0 ∙ held.0.held; by = held.0.by }, still_held ys answers same.1 held.1)

  -- the slots of others than these stayed
  pub others_of : (xs ys : List Client) → OthersStay xs slots slots' → AllByRecursion (λ y. AllByRecursion (λ x. x.slot ≢ y.slot) xs) ys
      → AllByRecursion (λ y. slice_get slots' y.slot ≡ slice_get slots y.slot) ys
  others_of xs [] stay all = tt
  others_of xs (y ∷ ys) stay all = (stay y.slot all.0, others_of xs ys stay all.1)

-- ---- putting clients back, the last first

pub none_back : (slots : List (Option (Connection TcpStream))) → OthersStay [] slots slots
none_back slots = λ k all. refl

pub back_more : (slots mid slots' : List (Option (Connection TcpStream))) (rest : List Client) (client : Client) (back : List Client) → AreApart (rest ++ client ∷ back)
    → AreOut slots (rest ++ client ∷ back) → AreBack mid back → OthersStay back slots mid → IsInOrClosed mid slots' client.slot client.connection
    → client.slot < length mid → AreBack slots' (client ∷ back) × OthersStay (client ∷ back) slots slots'
back_more slots mid slots' rest client back apart out are stay put low =
    let own = apart_rest rest (client ∷ back) apart in (
      (here put, still_back mid slots' back (others back own.0) are),
      λ k all. elsewhere k (flipped client.slot k all.0) put ∙ stay k all.1,
    )
  where
    elsewhere : (k : ℕ) → k ≢ client.slot → IsInOrClosed mid slots' client.slot client.connection → slice_get slots' k ≡ slice_get mid k
    elsewhere k other (inl put) = ap (λ (xs : List (Option (Connection TcpStream))). slice_get xs k) put ∙ get_set_other mid client.slot k (Some client.connection) other
    elsewhere k other (inr closed) = ap (λ (xs : List (Option (Connection TcpStream))). slice_get xs k) closed

    others : (ys : List Client) → AllByRecursion (λ other. other.slot ≢ client.slot) ys → AllByRecursion (λ y. slice_get slots' y.slot ≡ slice_get mid y.slot) ys
    others [] all = tt
    others (y ∷ ys) all = (elsewhere y.slot all.0 put, others ys all.1)

    here : IsInOrClosed mid slots' client.slot client.connection → IsBack slots' client.slot client.connection
    here (inl put) = inl (ap (λ (xs : List (Option (Connection TcpStream))). slice_get xs client.slot) put ∙ get_set_same mid client.slot (Some client.connection) low)
    here (inr closed) = inr (
        ap (λ (xs : List (Option (Connection TcpStream))). slice_get xs client.slot) closed
        ∙ (stay client.slot (apart_rest rest (client ∷ back) apart).0 ∙ (all_rest (λ c. slice_get slots c.slot ≡ Some None) rest (client ∷ back) out).0)
        )

pub none_left : {X : Type 0} (xs : List X) → length xs ≡ 0 → xs ≡ []
none_left [] none = refl
none_left (x ∷ xs) none = absurd (omega (arith, none))

-- all are back
pub all_back : (xs rest back : List Client) → xs ≡ rest ++ back → length rest ≡ 0 → xs ≡ back
all_back xs [] back split none = split
all_back xs (r ∷ rest) back split none = absurd (omega (arith, none))

-- the one that is put back next is the last of the others
pub last_split : (xs before after back : List Client) (client : Client) → xs ≡ before ++ back → before ≡ after ++ client ∷ [] → xs ≡ after ++ client ∷ back
last_split xs before after back client split popped = split ∙ (ap (λ (ys : List Client). ys ++ back) popped ∙ appended after client back)
  where
    appended : (xs : List Client) (y : Client) (ys : List Client) → (xs ++ y ∷ []) ++ ys ≡ xs ++ y ∷ ys
    appended [] y ys = refl
    appended (x ∷ xs) y ys = ap (λ zs. x ∷ zs) (appended xs y ys)

-- the one that is given its answer next is the first of the others
pub first_split : (xs done before after : List Client) (client : Client) → xs ≡ done ++ before → before ≡ client ∷ after → xs ≡ (done ++ client ∷ []) ++ after
first_split xs done before after client split popped = split ∙ (ap (λ (ys : List Client). done ++ ys) popped ∙ sym (appended done client after))
  where
    appended : (xs : List Client) (y : Client) (ys : List Client) → (xs ++ y ∷ []) ++ ys ≡ xs ++ y ∷ ys
    appended [] y ys = refl
    appended (x ∷ xs) y ys = ap (λ zs. x ∷ zs) (appended xs y ys)

-- the slot of the one that is put back next is free
pub back_free : (slots mid : List (Option (Connection TcpStream))) (rest : List Client) (client : Client) (back : List Client) → AreApart (rest ++ client ∷ back)
    → AreOut slots (rest ++ client ∷ back) → OthersStay back slots mid → slice_get mid client.slot ≡ Some None
back_free slots mid rest client back apart out stay =
    stay client.slot (apart_rest rest (client ∷ back) apart).0 ∙ (all_rest (λ c. slice_get slots c.slot ≡ Some None) rest (client ∷ back) out).0

-- ---- giving clients their answers, the first first

held_more : (slots : List (Option (Connection TcpStream))) (clients : List Client) (answers : List Answer) (client : Client) (a : Answer) → AreHeld slots clients answers
    → IsGiven slots client.slot client.connection a → AreHeld slots (clients ++ client ∷ []) (answers ++ a ∷ [])
held_more slots [] [] client a held given = (given, tt)
held_more slots [] (b ∷ bs) client a held given = absurd held
held_more slots (c ∷ cs) [] client a held given = absurd held
held_more slots (c ∷ cs) (b ∷ bs) client a held given = (held.0, held_more slots cs bs client a held.1 given)

pub held_length : (slots : List (Option (Connection TcpStream))) (clients : List Client) (answers : List Answer) → AreHeld slots clients answers → length clients ≡ length answers
held_length slots [] [] held = refl
held_length slots [] (b ∷ bs) held = absurd held
held_length slots (c ∷ cs) [] held = absurd held
held_length slots (c ∷ cs) (b ∷ bs) held = ap suc (held_length slots cs bs held.1)

-- the slot of the one that is given its answer next is free
pub given_free : (slots mid : List (Option (Connection TcpStream))) (done : List Client) (client : Client) (rest : List Client) → AreApart (done ++ client ∷ rest)
    → AreOut slots (done ++ client ∷ rest) → OthersStay done slots mid → slice_get mid client.slot ≡ Some None
given_free slots mid done client rest apart out stay =
    stay client.slot (apart_before done client rest apart) ∙ (all_rest (λ c. slice_get slots c.slot ≡ Some None) done (client ∷ rest) out).0

pub given_more : (slots mid slots' : List (Option (Connection TcpStream))) (done : List Client) (client : Client) (rest : List Client) (answers : List Answer) (a : Answer)
    → AreApart (done ++ client ∷ rest) → AreHeld mid done answers → OthersStay done slots mid → IsGivenIn mid slots' client.slot client.connection a → client.slot < length mid
    → AreHeld slots' (done ++ client ∷ []) (answers ++ a ∷ []) × OthersStay (done ++ client ∷ []) slots slots'
given_more slots mid slots' done client rest answers a apart held stay given low = (
  held_more slots' done answers client a (still_held mid slots' done answers (others done (apart_before done client rest apart)) held) (record {
    connection = given.connection;
    held = ap (λ (xs : List (Option (Connection TcpStream))). slice_get xs client.slot) given.put ∙ get_set_same mid client.slot (Some given.connection) low;
    by = given.by;
  }),
  λ k all. elsewhere k (flipped client.slot k (all_rest (λ c. c.slot ≢ k) done (client ∷ []) all).0) ∙ stay k (all_first (λ c. c.slot ≢ k) done (client ∷ []) all),
)
  where
    elsewhere : (k : ℕ) → k ≢ client.slot → slice_get slots' k ≡ slice_get mid k
    elsewhere k other = ap (λ (xs : List (Option (Connection TcpStream))). slice_get xs k) given.put ∙ get_set_other mid client.slot k (Some given.connection) other

    others : (ys : List Client) → AllByRecursion (λ y. y.slot ≢ client.slot) ys → AllByRecursion (λ y. slice_get slots' y.slot ≡ slice_get mid y.slot) ys
    others [] all = tt
    others (y ∷ ys) all = (elsewhere y.slot all.0, others ys all.1)

-- those that weren't given answers are out yet
pub rest_out : (slots mid : List (Option (Connection TcpStream))) (done rest : List Client) → AreApart (done ++ rest) → AreOut slots (done ++ rest) → OthersStay done slots mid → AreOut mid rest
rest_out slots mid done rest apart out stay =
    still_out slots mid rest (others_of slots mid done rest stay (apart_after done rest apart)) (all_rest (λ c. slice_get slots c.slot ≡ Some None) done rest out)

given_of : (slots : List (Option (Connection TcpStream))) (done rest : List Client) (answers : List Answer) → AreHeld slots done answers → AreBack slots rest → AreGiven slots (done ++ rest) answers
given_of slots [] rest [] held back = back
given_of slots [] rest (a ∷ answers) held back = absurd held
given_of slots (c ∷ cs) rest [] held back = absurd held
given_of slots (c ∷ cs) rest (a ∷ answers) held back = (held.0, given_of slots cs rest answers held.1 back)

-- all were given their answers, or put back
pub given_all : (slots mid slots' : List (Option (Connection TcpStream))) (done rest : List Client) (answers : List Answer) → AreApart (done ++ rest) → AreHeld mid done answers
    → OthersStay done slots mid → AreBack slots' rest → OthersStay rest mid slots' → AreGiven slots' (done ++ rest) answers × OthersStay (done ++ rest) slots slots'
given_all slots mid slots' done rest answers apart held stay back others = (
  given_of slots' done rest answers (still_held mid slots' done answers (others_of mid slots' rest done others (before done rest apart)) held) back,
  λ k all. others k (all_rest (λ c. c.slot ≢ k) done rest all) ∙ stay k (all_first (λ c. c.slot ≢ k) done rest all),
)
  where
    -- the slots of those that come before these are none of theirs
    before : (xs ys : List Client) → AreApart (xs ++ ys) → AllByRecursion (λ x. AllByRecursion (λ y. y.slot ≢ x.slot) ys) xs
    before [] ys apart = tt
    before (x ∷ xs) ys apart = (all_rest (λ other. other.slot ≢ x.slot) xs ys apart.0, before xs ys apart.1)

-- ---- whose answers they are

module _ (slots slots' : List (Option (Connection TcpStream))) (number : ℕ) (octets : List ℕ) (a : Answer) (has : HasAnswer slots' number octets a) where
  own_held : (slot : ℕ) (connection : Connection TcpStream) → slot ≡ has.slot → slice_get slots' slot ≡ Some (Some connection) → has.connection ≡ connection
  own_held slot connection is held =
      some_same has.connection connection (Some has.connection) refl
      (some_same (Some has.connection) (Some connection) (slice_get slots' has.slot) has.held (subst (λ (k : ℕ). slice_get slots' k ≡ Some (Some connection)) is held))

  not_free : (slot : ℕ) → slot ≡ has.slot → slice_get slots' slot ≡ Some None → ⊥
  not_free slot is free = clash (slice_get slots' has.slot) (subst (λ (k : ℕ). slice_get slots' k ≡ Some None) is free) has.held
    where
      clash : (o : Option (Option (Connection TcpStream))) → o ≡ Some None → o ≡ Some (Some has.connection) → ⊥
      clash o none some = absurd cc

  -- a connection that was put back has the answer that it had, if it had one
  own_back : (clients : List Client) → AreIn slots clients → AreBack slots' clients → AllByRecursion (λ c. c.slot ≢ has.slot) clients ⊎ HasAnswer slots number octets a
  own_back [] were back = inl tt
  own_back (c ∷ cs) were back = elim (is_same c.slot has.slot) [
    | inl is ↦ inr (here is back.0)
    | inr other ↦ elim (own_back cs were.1 back.1) [ inl all ↦ inl (other, all) | inr had ↦ inr had ]
  ]
    where
      here : c.slot ≡ has.slot → IsBack slots' c.slot c.connection → HasAnswer slots number octets a
      here is (inl held) =
          let own = own_held c.slot c.connection is held in
          record {
            slot = c.slot;
            connection = has.connection;
            held = subst (λ (connection : Connection TcpStream). slice_get slots c.slot ≡ Some (Some connection)) (sym own) were.0;
            numbered = has.numbered;
            asked = has.asked;
            answered = has.answered;
          }
      here is (inr free) = absurd (not_free c.slot is free)

  -- a client that was answered has its own answer
  own_given : (clients : List Client) (arrivals : List Arrival) (answers : List Answer) → AreOf clients arrivals → AreIn slots clients → AreGiven slots' clients answers
      → AllByRecursion (λ c. c.slot ≢ has.slot) clients ⊎ (HasAnswer slots number octets a ⊎ IsAnswerIn octets a (take (length answers) arrivals) answers)
  own_given clients arrivals [] paired were given = elim (own_back clients were given) [ inl all ↦ inl all | inr had ↦ inr (inl had) ]
  own_given [] arrivals (b ∷ bs) paired were given = absurd given
  own_given (c ∷ cs) [] (b ∷ bs) paired were given = absurd cc
  own_given (c ∷ cs) (x ∷ xs) (b ∷ bs) paired were given = elim (is_same c.slot has.slot) [
    | inl is ↦ inr (inr (here is))
    | inr other ↦ elim (own_given cs xs bs tails were.1 given.1) [
      | inl all ↦ inl (other, all)
      | inr it ↦ inr (elim it [ inl had ↦ inl had | inr put ↦ inr (later put) ])
    ]
  ]
    where
      heads : x.input ≡ Request (input_of c.connection)
      heads = cc

      tails : map (λ arrival. arrival.input) xs ≡ map (λ client. Request (input_of client.connection)) cs
      tails = cc

      here : c.slot ≡ has.slot → IsAnswerIn octets a (x ∷ take (length bs) xs) (b ∷ bs)
      here is =
          let own = own_held c.slot given.0.connection is given.0.held in
          let asked : input_of c.connection ≡ octets = sym given.0.by.1.asked ∙ (ap input_of (sym own) ∙ has.asked) in
          let same : b ≡ a = some_same b a (answer_of given.0.connection) given.0.by.1.answered (ap answer_of (sym own) ∙ has.answered) in
          subst (λ (said : Answer). IsAnswerIn octets a (x ∷ take (length bs) xs) (said ∷ bs)) (sym same) (first (heads ∙ ap Request asked))

module _ (slots mid slots' : List (Option (Connection TcpStream))) (clients : List Client) (part : IsPart slots mid) (were : AreIn slots clients) (others : OthersStay clients mid slots') where
  elsewhere : (number : ℕ) (octets : List ℕ) (a : Answer) (has : HasAnswer slots' number octets a) → AllByRecursion (λ c. c.slot ≢ has.slot) clients → HasAnswer slots number octets a
  elsewhere number octets a has all = record {
    slot = has.slot;
    connection = has.connection;
    held = part has.slot has.connection (sym (others has.slot all) ∙ has.held);
    numbered = has.numbered;
    asked = has.asked;
    answered = has.answered;
  }

  pub group_own : (arrivals : List Arrival) (answers : List Answer) → AreOf clients arrivals → AreGiven slots' clients answers → AreOwn slots slots' (take (length answers) arrivals) answers
  group_own arrivals answers paired given = λ number octets a has. elim (own_given slots slots' number octets a has clients arrivals answers paired were given) [
    | inl all ↦ inl (elsewhere number octets a has all)
    | inr it ↦ it
  ]

  pub group_back : AreBack slots' clients → NoAnswers slots slots'
  group_back back = λ number octets a has. elim (own_back slots slots' number octets a has clients were back) [
    | inl all ↦ elsewhere number octets a has all
    | inr had ↦ had
  ]
