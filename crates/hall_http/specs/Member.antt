-- The values of an object's members, where they are of the kind that is asked for.
use Rattle.std.specs.Prelude.{ℕ, List, Option, Bool, option_and_then, codes}
use Rattle.hall_http.specs.{Prelude.{mac_of, arch_in, Arch, Data, get, as_str, as_bool, as_array, parsed, name_of, octets_of_text, role_of_text, progress_of_text, outcome_of_text, Erase, Outcome, Progress, Role}, Value.{number_of, version_of, uuid_of, erase_of, uri_of, words_of}}

abbrev pub text_at : List ℕ → Data → Option (List ℕ)
text_at name json = option_and_then as_str (get name json)

abbrev pub number_at : List ℕ → Data → Option ℕ
number_at name json = option_and_then number_of (get name json)

abbrev pub name_at : List ℕ → Data → Option (List ℕ)
name_at name json = option_and_then name_of (text_at name json)

abbrev pub uri_at : List ℕ → Data → Option (List ℕ)
uri_at name json = option_and_then uri_of (text_at name json)

-- the key of a request, in one of the four spellings of a UUID
abbrev pub key_at : Data → Option (List ℕ)
key_at json = option_and_then parsed (text_at (codes "key") json)

abbrev pub version_at : Data → Option (Option ℕ)
version_at json = version_of (get (codes "version") json)

abbrev pub mac_at : Data → Option (List ℕ)
mac_at json = option_and_then mac_of (text_at (codes "mac") json)

abbrev pub digest_at : Data → Option (List ℕ)
digest_at json = option_and_then (octets_of_text 32) (text_at (codes "digest") json)

abbrev pub uuid_at : Data → Option (Option (List ℕ))
uuid_at json = uuid_of (get (codes "uuid") json)

abbrev pub arch_at : Data → Option Arch
arch_at json = option_and_then arch_in (text_at (codes "arch") json)

abbrev pub role_at : Data → Option Role
role_at json = option_and_then role_of_text (text_at (codes "role") json)

abbrev pub tests_at : Data → Option Bool
tests_at json = option_and_then as_bool (get (codes "tests") json)

abbrev pub erase_at : Data → Option (Option Erase)
erase_at json = option_and_then erase_of (get (codes "erase") json)

abbrev pub words_at : Data → Option (List (List ℕ))
words_at json = option_and_then words_of (option_and_then as_array (get (codes "args") json))

abbrev pub progress_at : Data → Option Progress
progress_at json = option_and_then progress_of_text (text_at (codes "stage") json)

abbrev pub outcome_at : Data → Option Outcome
outcome_at json = option_and_then outcome_of_text (text_at (codes "outcome") json)
