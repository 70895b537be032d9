-- Halls of tables.
use Rattle.std.{proofs.{Common.{◌≡◌, suc, List, [], ◌∷◌, ◌++◌, Ok, Err, Result, map, length, string_bytes, nat_cmp, Less, refl, ap, append_assoc}, lemmas.List.map-append}, specs.{List.{AllByRecursion, Sorted.IsStrictlySortedBy}, Map.keys_of, String.string_cmp, Cmp.Lexicographic.slice_cmp}}
use Rattle.toml.{specs.View.{members_view, view}, proofs.Views.Entry}
use Rattle.halls_file.specs.{Halls.{Hall, after, count, hall_of, hall_then, halls_of, seen}, declared.{entries.HallEntry.HallEntry, halls_fault.HallsFault.HallsFault}}

pub count-members_view : (tables : List Entry) → count (members_view tables) ≡ length tables
count-members_view [] = refl
count-members_view (table ∷ tables) = ap suc (count-members_view tables)

pub ruleset hall_steps = (count-members_view)

-- ---- one table more

after-hall_then : (halls : List Hall) (hall : Hall) (later : Result (List Hall) HallsFault) → after (halls ++ hall ∷ []) later ≡ after halls (hall_then (Ok hall) later)
after-hall_then halls hall (Ok more) = ap Ok (append_assoc halls (hall ∷ []) more)
after-hall_then halls hall (Err fault) = refl

pub one_more : (entries : List HallEntry) (entry : HallEntry) (table : Entry) (tables : List Entry) → hall_of (string_bytes table.0) (view table.1) ≡ Ok (seen entry)
    → after (map seen (entries ++ entry ∷ [])) (halls_of (members_view tables)) ≡ after (map seen entries) (halls_of (members_view (table ∷ tables)))
unfolding halls_of
one_more entries entry table tables is =
    rw (map-append seen entries (entry ∷ []), is) (after-hall_then (map seen entries) (seen entry) (halls_of (members_view tables)))

pub one_name_more : (entries : List HallEntry) (entry : HallEntry) (table : Entry) (tables : List Entry) → entry.name ≡ string_bytes table.0
    → map (λ entry. entry.name) (entries ++ entry ∷ []) ++ map (λ table. string_bytes table.0) tables ≡ map (λ entry. entry.name) entries ++ map (λ table. string_bytes table.0) (table ∷ tables)
one_name_more entries entry table tables is =
    rw (map-append (λ (entry : HallEntry). entry.name) entries (entry ∷ []), is) (append_assoc (map (λ entry. entry.name) entries) (string_bytes table.0 ∷ []) (map (λ table. string_bytes table.0) tables))

pub one_at_fault : (halls : List Hall) (fault : HallsFault) (table : Entry) (tables : List Entry) → hall_of (string_bytes table.0) (view table.1) ≡ Err fault
    → after halls (halls_of (members_view (table ∷ tables))) ≡ Err fault
unfolding halls_of
one_at_fault halls fault table tables is = rw is refl

-- ---- the order of names

all_below : (table : Entry) (tables : List Entry) → AllByRecursion (λ key. string_cmp table.0 key ≡ Less) (keys_of tables)
    → AllByRecursion (λ name. slice_cmp nat_cmp (string_bytes table.0) name ≡ Less) (map (λ other. string_bytes other.0) tables)
all_below table [] below = tt
all_below table (first ∷ tables) below = (below.0, all_below table tables below.1)

pub names_rise : (tables : List Entry) → IsStrictlySortedBy string_cmp (keys_of tables) → IsStrictlySortedBy (slice_cmp nat_cmp) (map (λ table. string_bytes table.0) tables)
unfolding IsStrictlySortedBy
names_rise [] sorted = tt
names_rise (table ∷ tables) sorted = (all_below table tables sorted.0, names_rise tables sorted.1)
