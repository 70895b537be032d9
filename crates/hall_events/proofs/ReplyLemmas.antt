-- The texts of machines and of lists.
use Rattle.std.{proofs.Common.{◌≡◌, ℕ, Bool, true, false, List, [], ◌∷◌, ◌++◌, map, refl, sym, ap, ◌∙◌, ◌+◌, ◌<◌, length, drop, get_or, add-one, drop-cons, append_assoc}, specs.Prelude.{codes, fold}}
use Rattle.json.specs.Print.{escape_byte}
use Rattle.serde_json.specs.{Data.{Data, Items, item, array, object, member, no_members}, View.items_of, Written.{comma_if, compact_text, items_text}}
use Rattle.hall_types.specs.{Hall.second, declared.order.Order.Order}
use Rattle.hall_events.specs.{Listing.Listing, declared.reply.{Reply.TheVariants.Http, BodyKind.TheVariants.Json}, Reply.{ListedMachine, machine_data, with_machine, no_machine, listing, order_data, reply_of, machine_list}}

-- ---- lists that are written item by item

regroup : (text comma one rest last : List ℕ) → (text ++ (comma ++ one)) ++ (rest ++ last) ≡ text ++ ((comma ++ (one ++ rest)) ++ last)
regroup text comma one rest last = simp append_assoc

-- the items that are left come after the text so far
item_written : (text new : List ℕ) (later : Bool) (d : Data) (ds : Items) (whole : List ℕ) → text ++ (items_text later (item d ds) ++ codes "}") ≡ whole
    → new ≡ text ++ (comma_if later ++ compact_text d) → new ++ (items_text true ds ++ codes "}") ≡ whole
item_written text new later d ds whole so_far is =
    ap (λ (t : List ℕ). t ++ (items_text true ds ++ codes "}")) is
    ∙ regroup text (comma_if later) (compact_text d) (items_text true ds) (codes "}")
    ∙ so_far

-- one order of a list more
pub order_written : (orders : List Order) (i : ℕ) (order : Order) (text new : List ℕ) (later : Bool) (d : Data) (whole : List ℕ)
    → i < length orders → order ≡ get_or orders i order → d ≡ order_data order → new ≡ text ++ (comma_if later ++ compact_text d)
    → text ++ (items_text later (items_of (map order_data (drop i orders))) ++ codes "}") ≡ whole
    → new ++ (items_text true (items_of (map order_data (drop (i + 1) orders))) ++ codes "}") ≡ whole
order_written orders i order text new later d whole below at_i value is so_far =
    let next : drop i orders ≡ order ∷ drop (i + 1) orders = rw (add-one, drop-cons orders i order, ← at_i) refl in
    item_written text new later (order_data order) (items_of (map order_data (drop (i + 1) orders))) whole
    (ap (λ (left : List Order). text ++ (items_text later (items_of (map order_data left)) ++ codes "}")) (sym next) ∙ so_far)
    (is ∙ ap (λ (e : Data). text ++ (comma_if later ++ compact_text e)) value)

pub no_order : (items : Items) → codes "{\"orders\":[" ++ (items_text false items ++ codes "}") ≡ compact_text (object (member (codes "orders") (array items) no_members))
unfolding escape_byte
no_order items = refl

machines_left : (list : Listing) (machines : List ListedMachine) → (fold with_machine list machines).text ++ codes "]}" ≡ list.text ++ (items_text list.any (items_of (map (machine_data second) machines)) ++ codes "}")
unfolding with_machine
machines_left list [] = refl
machines_left list (m ∷ machines) =
    machines_left (with_machine list m) machines
    ∙ regroup list.text (comma_if list.any) (compact_text (machine_data second m)) (items_text true (items_of (map (machine_data second) machines))) (codes "}")

pub listing_ends : (list : Listing) (machines : List ListedMachine) → list ≡ listing machines → Http 200 Json (list.text ++ codes "]}") ≡ reply_of second (machine_list machines)
unfolding reply_of escape_byte
listing_ends list machines is =
    ap (λ (l : Listing). Http 200 Json (l.text ++ codes "]}")) is
    ∙ ap (Http 200 Json) (machines_left no_machine machines)
