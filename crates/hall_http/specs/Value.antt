-- What the values of a command's members mean.
use Rattle.std.specs.Prelude.{ℕ, List, [], ◌∷◌, Option, Some, None, option_and_then, option_map, codes, bytes_eq, nat_le, length, true, false, not, ◌&&◌, if◌then◌else◌}
use Rattle.ipxe_script.specs.Word.{is_word, is_uri}
use Rattle.hall_http.specs.{Prelude.{parsed, Data, null, boolean, string, Items, no_items, item, as_str, as_number, as_u64, BootImage, has_hall_word, erase_of_text, number_in, unless_blank, Erase, Full}, Steps.◌>>=◌}

-- a number of 64 bits, written without a point and without an exponent
abbrev pub count_of : Data → Option ℕ
count_of value = option_and_then as_u64 (as_number value)

abbrev pub number_of : Data → Option ℕ
number_of value = do
  n ← count_of value
  number_in n

-- a version may be absent, but not null
abbrev pub version_of : Option Data → Option (Option ℕ)
version_of None = Some None
version_of (Some value) = option_map Some (number_of value)

-- the UUID of a machine, in one of the four spellings of a UUID
abbrev pub uuid_of_text : List ℕ → Option (List ℕ)
uuid_of_text text = do
  octets ← parsed text
  unless_blank octets

abbrev pub uuid_of_value : Data → Option (Option (List ℕ))
uuid_of_value null = Some None
uuid_of_value (string text) = option_map Some (uuid_of_text text)
uuid_of_value other = None

-- a UUID may be absent or null
abbrev pub uuid_of : Option Data → Option (Option (List ℕ))
uuid_of None = Some None
uuid_of (Some value) = uuid_of_value value

abbrev pub erase_of_word : List ℕ → Option (Option Erase)
erase_of_word word = if bytes_eq word (codes "none") then Some None else option_map Some (erase_of_text word)

-- false and `none` erase nothing, true is `full`
abbrev pub erase_of : Data → Option (Option Erase)
erase_of (boolean true) = Some (Some Full)
erase_of (boolean false) = Some None
erase_of (string word) = erase_of_word word
erase_of other = None

abbrev pub word_of : List ℕ → Option (List ℕ)
word_of text = if is_word text then Some text else None

abbrev pub uri_of : List ℕ → Option (List ℕ)
uri_of text = if is_uri text then Some text else None

-- a word and the words after it, where all are words
abbrev pub word_then : Option (List ℕ) → Option (List (List ℕ)) → Option (List (List ℕ))
word_then word words = option_and_then (λ first. option_map (λ others. first ∷ others) words) word

-- the words of an array of texts
abbrev pub words_of : Items → Option (List (List ℕ))
words_of no_items = Some []
words_of (item value values) = word_then (option_and_then word_of (as_str value)) (words_of values)

-- an image has at most 24 arguments, and none begins `hall.`
abbrev pub image_of : BootImage → Option BootImage
image_of image = if nat_le (length image.args) 24 && not (has_hall_word image.args) then Some image else None
