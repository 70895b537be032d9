-- Halls as a file names them, and which fault comes first.
use Rattle.std.specs.Prelude.{◌≡◌, ◌≢◌, ℕ, suc, ◌==◌, Bool, List, [], ◌∷◌, ◌++◌, Option, Some, None, option_and_then, Result, Ok, Err, codes, nat_le, string_bytes, if◌then◌else◌}
use Rattle.toml.specs.{Data.{Data, Members, no_members, member, as_str, as_table, get_member}, Parse.parse_document}
use Rattle.hall_types.specs.Name.{name_of}
use Rattle.halls_file.specs.declared.{entries.HallEntry.HallEntry, halls_fault.HallsFault.{HallsFault, TheVariants.{Toml, NoHall, TooMany, Name, Table, Desk, TokenFile, Member, Memory}}}

-- a hall: its name, its desk's address and the path of its token's file
pub record Hall : Type 0 where
  pub name : List ℕ
  pub desk : List ℕ
  pub token_file : List ℕ

-- an entry's texts
abbrev pub seen : HallEntry → Hall
seen entry = record { name = entry.name; desk = string_bytes entry.desk; token_file = string_bytes entry.token_file }

-- ---- steps

-- the next step, where this one found no fault
infixl 10 ◌>>=◌
abbrev pub ◌>>=◌ : {A B : Type 0} → Result A HallsFault → (A → Result B HallsFault) → Result B HallsFault
Ok x >>= f = f x
Err e >>= f = Err e

-- what is found, or else this fault
abbrev pub or_fault : {A : Type 0} → Option A → HallsFault → Result A HallsFault
or_fault (Some x) fault = Ok x
or_fault None fault = Err fault

-- the value is made into another, where there is one
abbrev pub with_ok : {A B : Type 0} → (A → B) → Result A HallsFault → Result B HallsFault
with_ok made (Ok a) = Ok (made a)
with_ok made (Err fault) = Err fault

-- the result is the stated one, or its fault is want of memory
abbrev pub Answers : {T : Type 0} → Result T HallsFault → Result T HallsFault → Type 0
Answers (Ok value) stated = stated ≡ Ok value
Answers (Err fault) stated = fault ≢ Memory → stated ≡ Err fault

-- ---- members

abbrev pub count : Members → ℕ
count no_members = 0
count (member key value others) = suc (count others)

-- the text that a member is
abbrev pub text_at : List ℕ → Members → Option (List ℕ)
text_at key members = option_and_then as_str (get_member key members)

-- ---- halls

-- no member is there but the two
abbrev pub unless_others : Bool → Hall → Result Hall HallsFault
unless_others are_two hall = if are_two then Ok hall else Err Member

-- the hall of a name and its value
unfoldable pub hall_of : List ℕ → Data → Result Hall HallsFault
hall_of name value = do
  own ← or_fault (name_of name) Name
  members ← or_fault (as_table value) Table
  desk ← or_fault (text_at (codes "desk") members) Desk
  token_file ← or_fault (text_at (codes "token_file") members) TokenFile
  unless_others (count members == 2) (record { name = own; desk = desk; token_file = token_file })

-- a hall before those after it
abbrev pub hall_then : Result Hall HallsFault → Result (List Hall) HallsFault → Result (List Hall) HallsFault
hall_then first later = first >>= (λ hall. with_ok (λ halls. hall ∷ halls) later)

-- halls before those of later tables
abbrev pub after : List Hall → Result (List Hall) HallsFault → Result (List Hall) HallsFault
after halls later = with_ok (λ more. halls ++ more) later

-- the halls of all tables, in the order of their names
unfoldable pub halls_of : Members → Result (List Hall) HallsFault
halls_of no_members = Ok []
halls_of (member name value others) = hall_then (hall_of name value) (halls_of others)

-- the tables of a text
abbrev pub table_in : List ℕ → Result Members HallsFault
table_in text = or_fault (parse_document text) Toml

-- the halls of so many tables: one at least, and at most 256
abbrev pub bounded : Bool → Members → Result (List Hall) HallsFault
bounded are_few tables = if are_few then halls_of tables else Err TooMany

abbrev pub bounded_halls : Members → Result (List Hall) HallsFault
bounded_halls tables = if count tables == 0 then Err NoHall else bounded (nat_le (count tables) 256) tables

-- the halls that a text names
abbrev pub halls_in : List ℕ → Result (List Hall) HallsFault
halls_in text = table_in text >>= bounded_halls
