-- What a column stores: truth values are 0 and 1, kinds are their numbers, what may be missing is NULL, and words are one text.
use Rattle.sql_schema.specs.Prelude.{slice_split, Value, Null, Int, BootImage}
use Rattle.std.specs.Prelude.{◌≡◌, ◌==◌, ℕ, pos, Bool, true, false, List, [], ◌∷◌, ◌++◌, Option, Some, None}

abbrev pub number : ℕ → Value
number n = Int (pos n)

abbrev pub truth_number : Bool → ℕ
truth_number true = 1
truth_number false = 0

abbrev pub or_null : {X : Type 0} → (X → Value) → Option X → Value
or_null value None = Null
or_null value (Some x) = value x

-- words joined by one space
abbrev pub joined : List (List ℕ) → List ℕ
joined [] = []
joined (word ∷ []) = word
joined (word ∷ next ∷ words) = word ++ 32 ∷ joined (next ∷ words)

-- the words of such a text
abbrev pub words_in : List ℕ → List (List ℕ)
words_in [] = []
words_in (octet ∷ octets) = slice_split (λ o. o == 32) (octet ∷ octets)

-- the text of its arguments gives them back
abbrev pub HasWords : BootImage → Type 0
HasWords i = words_in (joined i.args) ≡ i.args
