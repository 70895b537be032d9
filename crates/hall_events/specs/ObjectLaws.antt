-- Laws of JSON values, for the proofs of callers: a text is that of one value alone.
use Rattle.std.{proofs.Common.{◌≡◌, ◌<◌, ◌≤◌, ◌^◌, ◌||◌, ℕ, suc, zero, false, List, [], ◌∷◌, Option, Some, None, map, refl, sym, ap, ap₂, ◌∙◌, arith}, specs.{Prelude.{max, unwrap_or, option_map}, List.AllByRecursion, Ordering.{nat_cmp, match_ordering}, Cmp.Lexicographic.slice_cmp, declared.cmp.Ordering.{Ordering, TheVariants.{Less, Equal, Greater}}}}
use Rattle.json.specs.Json as json
use Rattle.json.{specs.{Json.document, Tree.{depth, items_depth, members_depth, HasNumbers, ItemsHaveNumbers, MembersHaveNumbers}}, proofs.Printed.{Decimals.IsNumber-decimal, Trees.document-print}}
use Rattle.serde_json.{specs.{Data.{Num, unsigned, negative, float, Data, null, boolean, number, string, array, object, Items, no_items, item, Members, no_members, member, put}, Read.number_of, View.items_of, Written.{outline, items_outline, members_outline, compact_text, has_float, items_have_float, members_have_float}}, proofs.{Numbers.number_of-decimal, Texts.print-outline}}
use Rattle.hall_events.specs.Object.{Member, put_all, object_of}

-- ---- values whose text can be read

-- a number from 0 up that has at most 64 bits
abbrev pub IsCount : Num → Type 0
IsCount (unsigned n) = n < 2 ^ 64
IsCount (negative z) = ⊥
IsCount (float x) = ⊥

-- its numbers are counts of 64 bits, and its arrays and objects nest at most this deep
abbrev mutual
  pub IsPlain : Data → ℕ → Type 0
  IsPlain (number n) levels = IsCount n
  IsPlain (array ds) zero = ⊥
  IsPlain (array ds) (suc levels) = ItemsArePlain ds levels
  IsPlain (object ms) zero = ⊥
  IsPlain (object ms) (suc levels) = MembersArePlain ms levels
  IsPlain other levels = Unit {0}

  pub ItemsArePlain : Items → ℕ → Type 0
  ItemsArePlain no_items levels = Unit {0}
  ItemsArePlain (item d ds) levels = IsPlain d levels × ItemsArePlain ds levels

  pub MembersArePlain : Members → ℕ → Type 0
  MembersArePlain no_members levels = Unit {0}
  MembersArePlain (member k d ms) levels = IsPlain d levels × MembersArePlain ms levels

MembersArePlain-put : (k : List ℕ) (d : Data) (ms : Members) (levels : ℕ) → IsPlain d levels → MembersArePlain ms levels → MembersArePlain (put k d ms) levels
MembersArePlain-put k d no_members levels h g = (h, g)
MembersArePlain-put k d (member l e ms) levels h g = by (slice_cmp nat_cmp k l) (MembersArePlain-put k d ms levels h g.1)
  where
    by : (o : Ordering) → MembersArePlain (put k d ms) levels → MembersArePlain (match_ordering o (member k d (member l e ms)) (member l d ms) (member l e (put k d ms))) levels
    by Less later = (h, g)
    by Equal later = (h, g.1)
    by Greater later = (g.0, later)

MembersArePlain-put_all : (ms : List Member) (old : Members) (levels : ℕ) → AllByRecursion (λ m. IsPlain m.1 levels) ms → MembersArePlain old levels → MembersArePlain (put_all ms old) levels
MembersArePlain-put_all [] old levels h g = g
MembersArePlain-put_all (m ∷ ms) old levels h g = MembersArePlain-put_all ms (put m.0 m.1 old) levels h.1 (MembersArePlain-put m.0 m.1 old levels h.0 g)

-- an object whose members have plain values
pub IsPlain-object : (ms : List Member) (levels : ℕ) → AllByRecursion (λ m. IsPlain m.1 levels) ms → IsPlain (object_of ms) (suc levels)
IsPlain-object ms levels h = MembersArePlain-put_all ms no_members levels h tt

-- a list of texts
pub ItemsArePlain-texts : (texts : List (List ℕ)) (levels : ℕ) → ItemsArePlain (items_of (map string texts)) levels
ItemsArePlain-texts [] levels = tt
ItemsArePlain-texts (text ∷ texts) levels = (tt, ItemsArePlain-texts texts levels)

-- ---- a plain value has no float

mutual
  pub no_float : (d : Data) (levels : ℕ) → IsPlain d levels → has_float d ≡ false
  no_float (number (unsigned n)) levels h = refl
  no_float (number other) levels h = absurd h
  no_float (array ds) zero h = absurd h
  no_float (array ds) (suc levels) h = items_no_float ds levels h
  no_float (object ms) zero h = absurd h
  no_float (object ms) (suc levels) h = members_no_float ms levels h
  no_float other levels h = refl

  items_no_float : (ds : Items) (levels : ℕ) → ItemsArePlain ds levels → items_have_float ds ≡ false
  items_no_float no_items levels h = refl
  items_no_float (item d ds) levels h = ap₂ (λ a b. a || b) (no_float d levels h.0) (items_no_float ds levels h.1)

  members_no_float : (ms : Members) (levels : ℕ) → MembersArePlain ms levels → members_have_float ms ≡ false
  members_no_float no_members levels h = refl
  members_no_float (member k d ms) levels h = ap₂ (λ a b. a || b) (no_float d levels h.0) (members_no_float ms levels h.1)

-- ---- its outline has numbers, and nests as deep

mutual
  pub numbers : (d : Data) (levels : ℕ) → IsPlain d levels → HasNumbers (outline d)
  numbers (number (unsigned n)) levels h = IsNumber-decimal n h
  numbers (number other) levels h = absurd h
  numbers (array ds) zero h = absurd h
  numbers (array ds) (suc levels) h = item_numbers ds levels h
  numbers (object ms) zero h = absurd h
  numbers (object ms) (suc levels) h = member_numbers ms levels h
  numbers other levels h = tt

  item_numbers : (ds : Items) (levels : ℕ) → ItemsArePlain ds levels → ItemsHaveNumbers (items_outline ds)
  item_numbers no_items levels h = tt
  item_numbers (item d ds) levels h = (numbers d levels h.0, item_numbers ds levels h.1)

  member_numbers : (ms : Members) (levels : ℕ) → MembersArePlain ms levels → MembersHaveNumbers (members_outline ms)
  member_numbers no_members levels h = tt
  member_numbers (member k d ms) levels h = (numbers d levels h.0, member_numbers ms levels h.1)

deeper : {a b : ℕ} → a ≤ b → suc a ≤ suc b
deeper h = omega arith

either_deep : (a b levels : ℕ) → a ≤ levels → b ≤ levels → max a b ≤ levels
either_deep a b levels h g = omega arith

mutual
  pub shallow : (d : Data) (levels : ℕ) → IsPlain d levels → depth (outline d) ≤ levels
  shallow (array ds) zero h = absurd h
  shallow (array ds) (suc levels) h = deeper (items_shallow ds levels h)
  shallow (object ms) zero h = absurd h
  shallow (object ms) (suc levels) h = deeper (members_shallow ms levels h)
  shallow other levels h = omega arith

  items_shallow : (ds : Items) (levels : ℕ) → ItemsArePlain ds levels → items_depth (items_outline ds) ≤ levels
  items_shallow no_items levels h = omega arith
  items_shallow (item d ds) levels h = either_deep (depth (outline d)) (items_depth (items_outline ds)) levels (shallow d levels h.0) (items_shallow ds levels h.1)

  members_shallow : (ms : Members) (levels : ℕ) → MembersArePlain ms levels → members_depth (members_outline ms) ≤ levels
  members_shallow no_members levels h = omega arith
  members_shallow (member k d ms) levels h = either_deep (depth (outline d)) (members_depth (members_outline ms)) levels (shallow d levels h.0) (members_shallow ms levels h.1)

-- ---- the value that a text is

-- the value with this outline
abbrev mutual
  found : json.Json → Data
  found json.null = null
  found (json.boolean b) = boolean b
  found (json.number s) = unwrap_or (option_map number (number_of s)) null
  found (json.string s) = string s
  found (json.array js) = array (items_found js)
  found (json.object ms) = object (members_found ms)

  items_found : json.Items → Items
  items_found json.no_items = no_items
  items_found (json.item j js) = item (found j) (items_found js)

  members_found : json.Members → Members
  members_found json.no_members = no_members
  members_found (json.member k j ms) = member k (found j) (members_found ms)

mutual
  found-outline : (d : Data) (levels : ℕ) → IsPlain d levels → found (outline d) ≡ d
  found-outline (number (unsigned n)) levels h = rw (number_of-decimal n h) refl
  found-outline (number other) levels h = absurd h
  found-outline (array ds) zero h = absurd h
  found-outline (array ds) (suc levels) h = ap array (items_found-outline ds levels h)
  found-outline (object ms) zero h = absurd h
  found-outline (object ms) (suc levels) h = ap object (members_found-outline ms levels h)
  found-outline other levels h = refl

  items_found-outline : (ds : Items) (levels : ℕ) → ItemsArePlain ds levels → items_found (items_outline ds) ≡ ds
  items_found-outline no_items levels h = refl
  items_found-outline (item d ds) levels h = ap₂ item (found-outline d levels h.0) (items_found-outline ds levels h.1)

  members_found-outline : (ms : Members) (levels : ℕ) → MembersArePlain ms levels → members_found (members_outline ms) ≡ ms
  members_found-outline no_members levels h = refl
  members_found-outline (member k d ms) levels h = ap₂ (member k) (found-outline d levels h.0) (members_found-outline ms levels h.1)

-- the value of a JSON text
unfoldable pub value_in : List ℕ → Data
value_in text = found (unwrap_or (document text) json.null)

-- a plain value is found in its text
pub value_in-compact_text : (d : Data) (levels : ℕ) → IsPlain d levels → levels ≤ json.max_depth → value_in (compact_text d) ≡ d
unfolding value_in
value_in-compact_text d levels h few =
    let deep : depth (outline d) ≤ json.max_depth = at_most (shallow d levels h) few in
    ap value_in (sym (print-outline d))
    ∙ ap (λ (o : Option json.Json). found (unwrap_or o json.null)) (document-print (outline d) (numbers d levels h) deep)
    ∙ found-outline d levels h
  where
    at_most : {a b c : ℕ} → a ≤ b → b ≤ c → a ≤ c
    at_most h g = omega arith

-- ---- what the values of members are read as

abbrev pub text_in : Option Data → List ℕ
text_in (Some (string text)) = text
text_in other = []

abbrev pub texts_of : Items → List (List ℕ)
texts_of no_items = []
texts_of (item d ds) = text_in (Some d) ∷ texts_of ds

abbrev pub texts_in : Option Data → List (List ℕ)
texts_in (Some (array ds)) = texts_of ds
texts_in other = []

-- texts are found again in their items
pub texts_of-texts : (texts : List (List ℕ)) → texts_of (items_of (map string texts)) ≡ texts
texts_of-texts [] = refl
texts_of-texts (text ∷ texts) = ap (λ more. text ∷ more) (texts_of-texts texts)

abbrev pub number_in : Option Data → Option ℕ
number_in (Some (number (unsigned n))) = Some n
number_in other = None
