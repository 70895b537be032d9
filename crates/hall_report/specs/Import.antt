-- Files of new machines, in comma-separated values (RFC 4180).
use Rattle.std.specs.Prelude.{◌≡◌, ◌≢◌, ℕ, ◌+◌, ◌==◌, Bool, true, false, ◌&&◌, List, [], ◌∷◌, length, Option, Some, None, option_and_then, option_map, Result, Ok, Err, bytes_eq, codes, if◌then◌else◌}
use Rattle.hall_report.specs.{Prelude.{default_config, records, strip_bom, field_at, parsed, mac_of, arch_in, Arch, name_of, unless_blank, text_of, ◌>>=◌}, declared.{fault.ImportFault.{ImportFault, TheVariants.{BadHeader, BadRow, Memory}}, row.ImportRow.ImportRow}}

-- ---- fields

-- the text of the field at a column, from 0 on
abbrev pub text_at : ℕ → List (List ℕ) → Option (List ℕ)
text_at column fields = option_and_then text_of (field_at fields column)

-- a machine's UUID in one of the spellings of a UUID; an empty text is none
abbrev pub uuid_of : List ℕ → Option (Option (List ℕ))
uuid_of [] = Some None
uuid_of (first ∷ others) = option_map Some (option_and_then unless_blank (parsed (first ∷ others)))

-- ---- rows

abbrev pub key_at : List (List ℕ) → Option (List ℕ)
key_at fields = option_and_then parsed (text_at 0 fields)

abbrev pub mac_at : List (List ℕ) → Option (List ℕ)
mac_at fields = option_and_then mac_of (text_at 1 fields)

abbrev pub arch_at : List (List ℕ) → Option Arch
arch_at fields = option_and_then arch_in (text_at 2 fields)

abbrev pub uuid_at : List (List ℕ) → Option (Option (List ℕ))
uuid_at fields = option_and_then uuid_of (text_at 3 fields)

abbrev pub pool_at : List (List ℕ) → Option (List ℕ)
pool_at fields = option_and_then name_of (text_at 4 fields)

abbrev pub row_in : List (List ℕ) → Option ImportRow
row_in fields = do
  key ← key_at fields
  mac ← mac_at fields
  arch ← arch_at fields
  uuid ← uuid_at fields
  pool ← pool_at fields
  Some (record { key = key; mac = mac; arch = arch; uuid = uuid; pool = pool })

-- the row of a record of five fields, each of which is good
abbrev pub row_of : List (List ℕ) → Option ImportRow
row_of fields = if length fields == 5 then row_in fields else None

-- ---- files

-- a field is there, and it is this one
abbrev pub is_field : List ℕ → Option (List ℕ) → Bool
is_field name None = false
is_field name (Some field) = bytes_eq field name

-- the record is key,mac,arch,uuid,pool
abbrev pub is_header : List (List ℕ) → Bool
is_header fields =
    (length fields == 5)
    && is_field (codes "key") (field_at fields 0)
    && is_field (codes "mac") (field_at fields 1)
    && is_field (codes "arch") (field_at fields 2)
    && is_field (codes "uuid") (field_at fields 3)
    && is_field (codes "pool") (field_at fields 4)

-- the value is made into another, where there is one
abbrev pub with_ok : {A B : Type 0} → (A → B) → Result A ImportFault → Result B ImportFault
with_ok made (Ok a) = Ok (made a)
with_ok made (Err fault) = Err fault

-- a row before those after it, if it is good
abbrev pub row_then : ℕ → Option ImportRow → Result (List ImportRow) ImportFault → Result (List ImportRow) ImportFault
row_then number None later = Err (BadRow number)
row_then number (Some row) later = with_ok (λ rows. row ∷ rows) later

-- the rows of records, the first of which has this number, or the number of the first bad one
unfoldable pub rows_from : ℕ → List (List (List ℕ)) → Result (List ImportRow) ImportFault
rows_from number [] = Ok []
rows_from number (fields ∷ later) = row_then number (row_of fields) (rows_from (number + 1) later)

-- the rows after the header
abbrev pub rows_after : Bool → List (List (List ℕ)) → Result (List ImportRow) ImportFault
rows_after true later = rows_from 1 later
rows_after false later = Err BadHeader

abbrev pub import_of : List (List (List ℕ)) → Result (List ImportRow) ImportFault
import_of [] = Err BadHeader
import_of (header ∷ later) = rows_after (is_header header) later

-- what a file imports, which may begin with a byte order mark
abbrev pub import_in : List ℕ → Result (List ImportRow) ImportFault
import_in octets = import_of (records default_config (strip_bom octets))

-- the result is the stated one, or its fault is want of memory
abbrev pub Answers : Result (List ImportRow) ImportFault → Result (List ImportRow) ImportFault → Type 0
Answers (Ok rows) stated = stated ≡ Ok rows
Answers (Err fault) stated = fault ≢ Memory → stated ≡ Err fault
