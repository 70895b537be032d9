-- Laws of values, for the proofs of callers: which equal which, in what order they are, and which a column keeps.
use Rattle.sql_schema.specs.Prelude.{bytes_eq, nat_cmp, slice_cmp, is_eq-slice_cmp, Value, Null, Int, Text, Blob, Binary, is_true, from_truth, cast, Compare, Eq, value_cmp-Int, value_cmp-Text, value_cmp-Blob}
use Rattle.std.proofs.Common.{◌≡◌, ℕ, ℤ, List, Bool, true, false, cond, Some, refl, ◌∙◌, int_eq, is_eq}
use Rattle.sqlite.specs.Ops.{unary, binary}
use Rattle.sqlite.specs.Kind.TheVariants as kind

pub truth : (t : Bool) → is_true (from_truth (Some t)) ≡ t
truth true = refl
truth false = refl

-- `=` between two numbers
pub same_number : (a b : ℤ) → is_true (binary (Compare Eq Binary) (Int a) (Int b)) ≡ int_eq a b
unfolding binary
same_number a b = rw (value_cmp-Int a b) (truth (int_eq a b))

-- `=` between two texts
pub same_text : (a b : List ℕ) → is_true (binary (Compare Eq Binary) (Text a) (Text b)) ≡ bytes_eq a b
unfolding binary
same_text a b = rw (value_cmp-Text a b) (truth (is_eq (slice_cmp nat_cmp a b)) ∙ is_eq-slice_cmp a b)

-- `=` between two lists of octets
pub same_blob : (a b : List ℕ) → is_true (binary (Compare Eq Binary) (Blob a) (Blob b)) ≡ bytes_eq a b
unfolding binary
same_blob a b = rw (value_cmp-Blob a b) (truth (is_eq (slice_cmp nat_cmp a b)) ∙ is_eq-slice_cmp a b)

-- NULL equals nothing
pub number_null : (a : ℤ) → is_true (binary (Compare Eq Binary) (Int a) Null) ≡ false
unfolding binary
number_null a = refl

pub null_text : (b : List ℕ) → is_true (binary (Compare Eq Binary) Null (Text b)) ≡ false
unfolding binary
null_text b = refl

pub null_blob : (b : List ℕ) → is_true (binary (Compare Eq Binary) Null (Blob b)) ≡ false
unfolding binary
null_blob b = refl

-- ---- a column keeps a value of its own kind

either : (b : Bool) (x : Value) → cond b x x ≡ x
either true x = refl
either false x = refl

pub cast-Int : (n : ℤ) → cast kind.Integer (Int n) ≡ Int n
unfolding unary
cast-Int n = either _ (Int n)

pub cast-Null : cast kind.Integer Null ≡ Null
unfolding unary
cast-Null = either _ Null
