-- Words of an iPXE script (https://ipxe.org/scripting): which texts they are.
use Rattle.std.specs.{Prelude.{ℕ, Bool, false, ◌&&◌, ◌||◌, ◌==◌, List, [], ◌∷◌, length, nat_eq, nat_lt, IsTrue, codes}, Char.is_ascii_alphanumeric, List.{list_any, list_all, starts_with}}
use Rattle.ipxe_script.specs.declared.word.TheConstants.{MAX_WORD_LEN}

-- the first character of a word is a letter, a digit or one of these four
unfoldable pub is_first_octet : ℕ → Bool
is_first_octet octet = is_ascii_alphanumeric octet || list_any (λ other. octet == other) (codes "-_./")

-- each further character of a word is one of those or one of these eight
unfoldable pub is_word_octet : ℕ → Bool
is_word_octet octet = is_first_octet octet || list_any (λ other. octet == other) (codes ":=,+@%?;")

-- a word has 1 to 128 characters
unfoldable pub is_word : List ℕ → Bool
is_word [] = false
is_word (first ∷ others) = is_first_octet first && list_all is_word_octet others && nat_lt (length others) MAX_WORD_LEN

-- a URI is a word that begins `http://`
unfoldable pub is_uri : List ℕ → Bool
is_uri text = is_word text && starts_with nat_eq text (codes "http://")

-- words that begin so are the desk's own
unfoldable pub is_hall_word : List ℕ → Bool
is_hall_word word = starts_with nat_eq word (codes "hall.")

abbrev pub IsWord : List ℕ → Type 0
IsWord text = IsTrue (is_word text)

abbrev pub IsUri : List ℕ → Type 0
IsUri text = IsTrue (is_uri text)

-- each character may stand in a word after its first
abbrev pub AreWordOctets : List ℕ → Type 0
AreWordOctets text = IsTrue (list_all is_word_octet text)
