-- The program `client_of` identifies the client that sent a message.
use Rattle.std.{proofs.{Common.{◌≡◌, ℕ, Bool, true, false, List, [], ◌∷◌, ◌++◌, take, drop, Option, Some, None, Result, Ok, Err, refl, sym, ap, subst, ◌∙◌, inl, inr, arith}, lemmas.{Bool.Decides.{Decides-eqb, nat_tests}, Slice.Eq.starts_is}}, specs.{Prelude.{IfOk, ◌⊎◌, nat_eq, codes, ok_or, unwrap_or, if◌then◌else◌}, List.starts_with, Option.option_map}}
use Rattle.dhcp_frame.specs.{Area.{Entry, reading, value_of}, Message.Message, AreaLaws.{reading-from_Reads, Reads-from_reading}}
use Rattle.pxe_vendor.{specs.{Arch.{numbers_of, class_numbers, first_known}, Client.{IsClient, HasItem, message_type, uuid_of, is_ipxe, boot_item}, Served.{◌>>=◌, kind_of, class_of, item_of, decided, client_of, Answers}, Values.values_of, declared.{values.Values.Values, arch.Arch.Arch, clients.{Kind.{Kind, TheVariants.{Discover, Request}}, Client.Client}, serve.NotServed.{NotServed, TheVariants.{NotPxe, NoArch, BadVendor, Memory}}}}, proofs.ArchLemmas.{FirstKnown-from_first_known, first_known-from_FirstKnown}}

-- ---- one step and the rest

bind_ok : {A B : Type 0} (r : Result A NotServed) (f : A → Result B NotServed) (y : B) → (r >>= f) ≡ Ok y → (x : A) × (r ≡ Ok x) × (f x ≡ Ok y)
bind_ok (Ok x) f y e = (x, refl, e)
bind_ok (Err cause) f y e = absurd cc

ok_or-ok : {A : Type 0} (o : Option A) (cause : NotServed) (x : A) → ok_or o cause ≡ Ok x → o ≡ Some x
ok_or-ok None cause x e = absurd cc
ok_or-ok (Some y) cause x e = cc

-- ---- each step and its part of the relation

kind_of-message_type : (kind : Kind) → kind_of (Some (message_type kind ∷ [])) ≡ Ok kind
unfolding kind_of
kind_of-message_type Discover = refl
kind_of-message_type Request = refl

kind_number : (n : ℕ) (kind : Kind) → kind_of (Some (n ∷ [])) ≡ Ok kind → n ≡ message_type kind
unfolding kind_of
kind_number n Discover e = grind (arith, nat_tests)
kind_number n Request e = grind (arith, nat_tests)

message_type-from_kind_of : (value : Option (List ℕ)) (kind : Kind) → kind_of value ≡ Ok kind → value ≡ Some (message_type kind ∷ [])
unfolding kind_of
message_type-from_kind_of (Some (n ∷ [])) kind e = ap (λ (x : ℕ). Some (x ∷ [])) (kind_number n kind e)
message_type-from_kind_of other kind e = absurd cc

class_of-pxe : (more : List ℕ) → class_of (Some (codes "PXEClient" ++ more)) ≡ Ok (codes "PXEClient" ++ more)
unfolding class_of
class_of-pxe more = refl

class_test : (b : Bool) (octets class : List ℕ) → (if b then Ok octets else Err NotPxe) ≡ Ok class → b ≡ true
class_test true octets class e = refl
class_test false octets class e = absurd cc

pxe-from_class_of : (value : Option (List ℕ)) (class : List ℕ) → class_of value ≡ Ok class → (more : List ℕ) × (value ≡ Some (codes "PXEClient" ++ more))
unfolding class_of
pxe-from_class_of None class e = absurd cc
pxe-from_class_of (Some octets) class e =
    let begins = starts_is Decides-eqb octets (codes "PXEClient") (starts_with nat_eq octets (codes "PXEClient")) refl in
    (drop 9 octets, ap (λ (x : List ℕ). Some x) (begins.0 (class_test _ octets class e)))

value-from_class_of : (value : Option (List ℕ)) (class : List ℕ) → class_of value ≡ Ok class → unwrap_or value [] ≡ class
unfolding class_of
value-from_class_of None class e = absurd cc
value-from_class_of (Some octets) class e = let true_is = class_test _ octets class e in let same = rw true_is at e in cc

item_of-from_HasItem : (kind : Kind) (area item : Option (List ℕ)) → HasItem kind area item → item_of kind area ≡ Ok item
unfolding item_of
item_of-from_HasItem Discover area item h = rw h refl
item_of-from_HasItem Request None item h = rw h refl
item_of-from_HasItem Request (Some area) item (tags, reads, is) = rw (reading-from_Reads reads, is) refl

item_read : (read : Option (List Entry)) (item : Option (List ℕ)) → ok_or (option_map boot_item read) BadVendor ≡ Ok item → (tags : List Entry) × (read ≡ Some tags) × (item ≡ boot_item tags)
item_read None item e = absurd cc
item_read (Some tags) item e = (tags, refl, cc)

HasItem-from_item_of : (kind : Kind) (area item : Option (List ℕ)) → item_of kind area ≡ Ok item → HasItem kind area item
unfolding item_of
HasItem-from_item_of Discover area item e = cc
HasItem-from_item_of Request None item e = cc
HasItem-from_item_of Request (Some area) item e =
    let (tags, reads, is) = item_read (reading area) item e in
    (tags, Reads-from_reading area tags reads, is)

-- ---- the kind, the architecture and the boot item in joined values

-- joined values give this kind, architecture and boot item
record Gives (v : Values) (given : Kind × Arch × Option (List ℕ)) : Type 0 where
  kind : kind_of v.message_type ≡ Ok given.0
  class : class_of v.class ≡ Ok (unwrap_or v.class [])
  arch : first_known (numbers_of (unwrap_or v.architectures []) ++ class_numbers (unwrap_or v.class [])) ≡ Some given.1
  item : item_of given.0 v.vendor ≡ Ok given.2

decided-from_Gives : (v : Values) (given : Kind × Arch × Option (List ℕ)) → Gives v given → decided v ≡ Ok given
unfolding decided
decided-from_Gives v given h = rw (h.kind, h.class, h.arch, h.item) refl

Gives-from_decided : (v : Values) (given : Kind × Arch × Option (List ℕ)) → decided v ≡ Ok given → Gives v given
unfolding decided
Gives-from_decided v given e =
    let (kind, is_kind, e1) = bind_ok (kind_of v.message_type) _ given e in
    let (class, is_class, e2) = bind_ok (class_of v.class) _ given e1 in
    let known = first_known (numbers_of (unwrap_or v.architectures []) ++ class_numbers class) in
    let (arch, is_arch, e3) = bind_ok (ok_or known NoArch) _ given e2 in
    let (item, is_item, e4) = bind_ok (item_of kind v.vendor) _ given e3 in
    let whole : (kind, arch, item) ≡ given = cc in
    let value = value-from_class_of v.class class is_class in
    subst (λ (x : Kind × Arch × Option (List ℕ)). Gives v x) whole (record {
      kind = is_kind;
      class = rw value is_class;
      arch = rw value (ok_or-ok known NoArch arch is_arch);
      item = is_item;
    })

-- ---- the relation and the program

pub client_of-from_IsClient : (m : Message) (client : Client) → IsClient m client → client_of m ≡ Ok client
unfolding client_of
client_of-from_IsClient m client h =
    let (more, is_class) = h.class in
    let given = decided-from_Gives (values_of m.entries) (client.kind, client.arch, client.item) (record {
      kind = ap kind_of h.type ∙ kind_of-message_type client.kind;
      class = rw is_class (class_of-pxe more);
      arch = first_known-from_FirstKnown _ client.arch h.arch;
      item = item_of-from_HasItem client.kind _ client.item h.item;
    }) in
    rw (given, ← h.mac, ← h.uuid, ← h.echo97, ← h.ipxe) refl

-- the client of a message with this kind, architecture and boot item
abbrev client_with : Message → Kind → Arch → Option (List ℕ) → Client
client_with m kind arch item = record {
  mac = take 6 m.chaddr;
  kind = kind;
  arch = arch;
  uuid = uuid_of (value_of 97 m.entries);
  echo97 = value_of 97 m.entries;
  item = item;
  ipxe = is_ipxe (value_of 77 m.entries);
}

pub IsClient-from_client_of : (m : Message) (client : Client) → client_of m ≡ Ok client → IsClient m client
unfolding client_of
IsClient-from_client_of m client e =
    let (given, is_given, is_client) = bind_ok (decided (values_of m.entries)) _ client e in
    let h = Gives-from_decided (values_of m.entries) given is_given in
    let whole : client_with m given.0 given.1 given.2 ≡ client = cc in
    subst (λ (x : Client). IsClient m x) whole (record {
      type = message_type-from_kind_of _ given.0 h.kind;
      class = pxe-from_class_of _ _ h.class;
      arch = FirstKnown-from_first_known _ given.1 h.arch;
      item = HasItem-from_item_of given.0 _ given.2 h.item;
      mac = refl;
      uuid = refl;
      echo97 = refl;
      ipxe = refl;
    })

pub IsClient-one : (m : Message) (client other : Client) → IsClient m client → IsClient m other → client ≡ other
IsClient-one m client other h k =
    let a = client_of-from_IsClient m client h in
    let b = client_of-from_IsClient m other k in
    cc

-- ---- the result, unless memory ran out

pub IfOk-Answers : (m : Message) (r : Result Client NotServed) → Answers r (client_of m) → IfOk r (λ client. IsClient m client)
IfOk-Answers m (Ok client) given = IsClient-from_client_of m client given
IfOk-Answers m (Err cause) given = tt

pub Answers-only : (m : Message) (r : Result Client NotServed) (client : Client) → Answers r (client_of m) → IsClient m client → (r ≡ Ok client) ⊎ (r ≡ Err Memory)
Answers-only m (Ok other) client given h = inl (sym given ∙ client_of-from_IsClient m client h)
Answers-only m (Err cause) client given h =
    elim given [
      | inl memory ↦ inr (ap (λ (x : NotServed). Err x) memory)
      | inr is ↦ absurd (let no = sym is ∙ client_of-from_IsClient m client h in cc)
    ]
