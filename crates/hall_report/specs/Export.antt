-- The export of a hall's machines, in comma-separated values (RFC 4180).
use Rattle.std.specs.{Prelude.{◌≡◌, ℕ, false, List, [], ◌∷◌, ◌++◌, Option, Some, None, option_map, codes, IsUtf8}, Fmt.decimal, List.flat_map, declared.{alloc.Global.Global, vec.Vec.Vec}}
use Rattle.hall_report.specs.{Prelude.{default_writer, fields_written, has_written, row_text, text_written, writer_setup, Writer, arch_text, Hall, interfaces_of, listed, status_text, Interface, Machine}, Lines.{macs_text, uuid_text, yes_no}}

-- a record's text, ended by LF, with quotes round the fields that need them (RFC 4180 section 2)
unfoldable pub record_text : List (List ℕ) → List ℕ
record_text fields = row_text default_writer fields

abbrev pub header : List (List ℕ)
header =
    codes "id" ∷ codes "macs" ∷ codes "arch" ∷ codes "uuid" ∷ codes "pool"
    ∷ codes "status" ∷ codes "owner" ∷ codes "image" ∷ codes "locked" ∷ codes "version" ∷ []

-- an absent value is an empty field
abbrev pub or_empty : Option (List ℕ) → List ℕ
or_empty None = []
or_empty (Some text) = text

-- what a machine with its interfaces is
abbrev pub hardware_fields : Machine → List Interface → List (List ℕ)
hardware_fields m own = decimal m.id ∷ macs_text own ∷ arch_text m.arch ∷ or_empty (option_map uuid_text m.uuid) ∷ []

-- where it stands, who has it, and what it runs
abbrev pub holder_fields : Machine → List (List ℕ)
holder_fields m = m.pool ∷ status_text m.status ∷ or_empty m.owner ∷ or_empty m.image ∷ yes_no m.locked ∷ decimal m.version ∷ []

-- the fields that the header names
abbrev pub machine_fields : Machine → List Interface → List (List ℕ)
machine_fields m own = hardware_fields m own ++ holder_fields m

-- a header and a record for each machine, by number
abbrev pub export_text : Hall → List ℕ
export_text h = record_text header ++ flat_map (λ m. record_text (machine_fields m (interfaces_of h m.id))) (listed h.machines)

-- ---- while it is written

-- whole records were written, with this text
pub record HasWritten (w : Writer (Vec ℕ Global)) (text : List ℕ) : Type 0 where
  pub setup : writer_setup w ≡ default_writer
  pub fields : fields_written w ≡ 0
  pub bare : has_written w ≡ false
  pub text_is : text_written (λ v. Some v.items) w ≡ Some text
  pub is_text : IsUtf8 text
