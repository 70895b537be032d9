-- What the members of an object say (RFC 8259 section 4).
use Rattle.std.specs.Prelude.{ℕ, List, [], ◌∷◌, Option, Some, None, is_some, option_and_then, option_map, if◌then◌else◌, codes}
use Rattle.serde_json.specs.{Data.{Data, Items, no_items, item}, Find.{get, as_array, as_null, as_number, as_str, as_u64}}
use Rattle.hall_types.specs.{Name.name_of, Number.number_in, Refusal.refusal_of_text, declared.{refusal.Refusal.Refusal, status.Status.Status}, Status.status_of_text}
use Rattle.hallctl_texts.specs.declared.answers.MachineState.{MachineState}

abbrev pub count_at : List ℕ → Data → Option ℕ
count_at name value = option_and_then as_u64 (option_and_then as_number (get name value))

-- the number or the version that a member says
abbrev pub number_at : List ℕ → Data → Option ℕ
number_at name value = option_and_then number_in (count_at name value)

abbrev pub text_at : List ℕ → Data → Option (List ℕ)
text_at name value = option_and_then as_str (get name value)

-- the name that a member says
abbrev pub name_at : List ℕ → Data → Option (List ℕ)
name_at name value = option_and_then name_of (text_at name value)

-- what was found in a member, or that it is null
abbrev pub null_or : {T : Type 0} → Option T → Data → Option (Option T)
null_or found member = if is_some (as_null member) then Some None else option_map Some found

-- the same of a member that may be missing: None then, or where it isn't null and nothing was found
abbrev pub or_null : {T : Type 0} → Option T → Option Data → Option (Option T)
or_null found member = option_and_then (null_or found) member

-- the name that a member says, or that it is null
abbrev pub name_or_null : List ℕ → Data → Option (Option (List ℕ))
name_or_null name value = or_null (name_at name value) (get name value)

-- the values of an array (RFC 8259 section 5)
abbrev pub values : Items → List Data
values no_items = []
values (item value others) = value ∷ values others

abbrev pub array_at : List ℕ → Data → Option Items
array_at name value = option_and_then as_array (get name value)

-- the values of a member that is an array
abbrev pub list_at : List ℕ → Data → Option (List Data)
list_at name value = option_map values (array_at name value)

abbrev pub status_at : Data → Option Status
status_at value = option_and_then status_of_text (text_at (codes "status") value)

-- the refusal that an object names
unfoldable pub refusal_at : Data → Option Refusal
refusal_at value = option_and_then refusal_of_text (text_at (codes "refusal") value)

-- a machine's number, status and version
unfoldable pub state_at : Data → Option MachineState
state_at value =
    option_and_then (λ id. option_and_then (λ status. option_map (λ version. record { id = id; status = status; version = version })
    (number_at (codes "version") value)) (status_at value)) (number_at (codes "id") value)
