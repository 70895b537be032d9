-- A machine that is written member by member.
use Rattle.std.proofs.{Common.{◌≡◌, ℕ, ◌+◌, ◌<◌, Bool, List, [], ◌∷◌, ◌++◌, true, false, map, length, drop, get_or, refl, sym, ap, ◌∙◌, add-one, drop-cons, append_assoc}, lemmas.List.append-nil}
use Rattle.json.specs.Print.{quoted}
use Rattle.serde_json.specs.{Data.{object, Members, no_members, member}, View.items_of, Written.{comma_if, compact_text, items_text, members_text}}
use Rattle.hall_types.specs.{Hall.second, declared.machine.Interface.Interface}
use Rattle.hall_events.specs.{Command.mac_data, Object.Member, Reply.{ListedMachine, machine_data, first_members, middle_members, last_members}, WrittenMachine.{before, written}}

regroup_item : (text comma one rest : List ℕ) → (text ++ (comma ++ one)) ++ rest ≡ text ++ (comma ++ (one ++ rest))
regroup_item text comma one rest = simp append_assoc

regroup : (comma name value rest last : List ℕ) → (comma ++ (name ++ 58 ∷ (value ++ rest))) ++ last ≡ comma ++ (name ++ 58 ∷ (value ++ (rest ++ last)))
regroup comma name value rest last = simp append_assoc

-- the members of an object, in this order
abbrev members_of : List Member → Members
members_of [] = no_members
members_of (m ∷ ms) = member m.0 m.1 (members_of ms)

-- members, and then more
written_more : (later : Bool) (m : Member) (ms more : List Member) → written later (m ∷ ms) ++ written true more ≡ written later (m ∷ (ms ++ more))
written_more later m [] more = simp append_assoc
written_more later m (n ∷ ms) more =
    regroup (comma_if later) (quoted m.0) (compact_text m.1) (written true (n ∷ ms)) (written true more)
    ∙ ap (λ (rest : List ℕ). comma_if later ++ (quoted m.0 ++ 58 ∷ (compact_text m.1 ++ rest))) (written_more true n ms more)

-- after the last member comes the brace
written_ends : (later : Bool) (ms : List Member) → written later ms ++ 125 ∷ [] ≡ members_text later (members_of ms)
written_ends later [] = refl
written_ends later (m ∷ ms) =
    regroup (comma_if later) (quoted m.0) (compact_text m.1) (written true ms) (125 ∷ [])
    ∙ ap (λ (rest : List ℕ). comma_if later ++ (quoted m.0 ++ 58 ∷ (compact_text m.1 ++ rest))) (written_ends true ms)

-- three parts, of which the first two aren't empty
parts_joined : (f : Member) (fs : List Member) (m : Member) (ms ls : List Member)
    → 123 ∷ (written false (f ∷ fs) ++ (written true (m ∷ ms) ++ (written true ls ++ 125 ∷ []))) ≡ compact_text (object (members_of (f ∷ (fs ++ (m ∷ (ms ++ ls))))))
parts_joined f fs m ms ls =
    ap (λ (rest : List ℕ). 123 ∷ (written false (f ∷ fs) ++ rest)) (sym (append_assoc (written true (m ∷ ms)) (written true ls) (125 ∷ [])))
    ∙ ap (λ (rest : List ℕ). 123 ∷ (written false (f ∷ fs) ++ (rest ++ 125 ∷ []))) (written_more true m ms ls)
    ∙ ap (λ (rest : List ℕ). 123 ∷ rest) (sym (append_assoc (written false (f ∷ fs)) (written true (m ∷ (ms ++ ls))) (125 ∷ [])))
    ∙ ap (λ (rest : List ℕ). 123 ∷ (rest ++ 125 ∷ [])) (written_more false f fs (m ∷ (ms ++ ls)))
    ∙ ap (λ (rest : List ℕ). 123 ∷ rest) (written_ends false (f ∷ (fs ++ (m ∷ (ms ++ ls)))))

joined : (first middle last : List Member) (f : Member) (fs : List Member) (m : Member) (ms : List Member) → first ≡ f ∷ fs → middle ≡ m ∷ ms
    → 123 ∷ (written false first ++ (written true middle ++ (written true last ++ 125 ∷ []))) ≡ compact_text (object (members_of (first ++ (middle ++ last))))
joined first middle last f fs m ms is_first is_middle = rw (is_first, is_middle) (parts_joined f fs m ms last)

in_order : (l : ListedMachine) → object (members_of (first_members second l.machine ++ (middle_members l ++ last_members l.machine))) ≡ machine_data second l
unfolding machine_data
in_order l = refl

-- all members of a machine, in three parts
pub machine_written : (l : ListedMachine)
    → 123 ∷ (written false (first_members second l.machine) ++ (written true (middle_members l) ++ (written true (last_members l.machine) ++ 125 ∷ []))) ≡ compact_text (machine_data second l)
machine_written l =
    joined (first_members second l.machine) (middle_members l) (last_members l.machine) _ _ _ _ refl refl
    ∙ ap compact_text (in_order l)

five_parts : (t f m l : List ℕ) → ((((t ++ 123 ∷ []) ++ f) ++ m) ++ l) ++ 125 ∷ [] ≡ t ++ 123 ∷ (f ++ (m ++ (l ++ 125 ∷ [])))
five_parts t f m l = simp append_assoc

-- a machine is written after a text: a brace, the three parts, and a brace
pub machine_pushed : (l : ListedMachine) (t u v w x y : List ℕ) → u ≡ t ++ 123 ∷ [] → v ≡ u ++ written false (first_members second l.machine) → w ≡ v ++ written true (middle_members l)
    → x ≡ w ++ written true (last_members l.machine) → y ≡ x ++ 125 ∷ [] → y ≡ t ++ compact_text (machine_data second l)
machine_pushed l t u v w x y opened first middle last closed =
    closed
    ∙ ap (λ (text : List ℕ). text ++ 125 ∷ []) (last ∙ ap (λ (text : List ℕ). text ++ written true (last_members l.machine)) (middle
    ∙ ap (λ (text : List ℕ). text ++ written true (middle_members l)) (first ∙ ap (λ (text : List ℕ). text ++ written false (first_members second l.machine)) opened)))
    ∙ five_parts t (written false (first_members second l.machine)) (written true (middle_members l)) (written true (last_members l.machine))
    ∙ ap (λ (text : List ℕ). t ++ text) (machine_written l)

placed : (t comma name value rest : List ℕ) → ((t ++ (comma ++ (name ++ 58 ∷ []))) ++ value) ++ rest ≡ t ++ (comma ++ (name ++ 58 ∷ (value ++ rest)))
placed t comma name value rest = simp append_assoc

-- a member is written, and then the others
member_pushed : (later : Bool) (m : Member) (others : List Member) (t : List ℕ) {u v w : List ℕ} → u ≡ t ++ before later m.0 → v ≡ u ++ compact_text m.1
    → w ≡ v ++ written true others → w ≡ t ++ written later (m ∷ others)
member_pushed later m others t named valued rest =
    rest
    ∙ ap (λ (text : List ℕ). text ++ written true others) (valued ∙ ap (λ (text : List ℕ). text ++ compact_text m.1) named)
    ∙ placed t (comma_if later) (quoted m.0) (compact_text m.1) (written true others)

-- members are written in turn
pub data Pushes : Bool → List ℕ → List Member → List ℕ → Type 0 where
  pushed_all : {later : Bool} {t : List ℕ} → Pushes later t [] t
  pushed : {later : Bool} {m : Member} {ms : List Member} {t u v w : List ℕ} → u ≡ t ++ before later m.0 → v ≡ u ++ compact_text m.1
      → Pushes true v ms w → Pushes later t (m ∷ ms) w

pub members_pushed : {later : Bool} {t w : List ℕ} {ms : List Member} → Pushes later t ms w → w ≡ t ++ written later ms
members_pushed pushed_all = sym (append-nil _)
members_pushed (pushed named valued rest) = member_pushed _ _ _ _ named valued (members_pushed rest)

-- one address of a list more
pub mac_written : (interfaces : List Interface) (i : ℕ) (interface : Interface) (text new : List ℕ) (later : Bool) (whole : List ℕ)
    → i < length interfaces → interface ≡ get_or interfaces i interface → new ≡ text ++ (comma_if later ++ compact_text (mac_data interface.mac))
    → text ++ items_text later (items_of (map mac_data (map (λ it. it.mac) (drop i interfaces)))) ≡ whole
    → new ++ items_text true (items_of (map mac_data (map (λ it. it.mac) (drop (i + 1) interfaces)))) ≡ whole
mac_written interfaces i interface text new later whole below at_i is so_far =
    let next : drop i interfaces ≡ interface ∷ drop (i + 1) interfaces = rw (add-one, drop-cons interfaces i interface, ← at_i) refl in
    let rest : List ℕ = items_text true (items_of (map mac_data (map (λ (it : Interface). it.mac) (drop (i + 1) interfaces)))) in
    ap (λ (t : List ℕ). t ++ rest) is
    ∙ regroup_item text (comma_if later) (compact_text (mac_data interface.mac)) rest
    ∙ ap (λ (left : List Interface). text ++ items_text later (items_of (map mac_data (map (λ (it : Interface). it.mac) left)))) (sym next)
    ∙ so_far
