-- Paths that a file has.
use Rattle.std.specs.{Prelude.{◌≡◌, ℕ, Bool, true, false, ◌==◌, List, [], ◌∷◌, ◌++◌}, Str.NoCharPasses}

-- the path begins with `/`
abbrev pub is_absolute : List ℕ → Bool
is_absolute [] = false
is_absolute (first ∷ others) = first == 47

abbrev pub HasNoSlash : List ℕ → Type 0
HasNoSlash text = NoCharPasses (λ character. character == 47) text

-- the file's path is its folder, a `/` and its name
abbrev pub IsIn : List ℕ → List ℕ → Type 0
IsIn folder file = (name : List ℕ) × HasNoSlash name × (file ≡ folder ++ 47 ∷ name)

-- where a path is found that a file has
pub data IsBeside (file path : List ℕ) : List ℕ → Type 0 where
  absolute : is_absolute path ≡ true → IsBeside file path path
  alone : HasNoSlash file → IsBeside file path path
  in_folder : (folder : List ℕ) → is_absolute path ≡ false → IsIn folder file → IsBeside file path (folder ++ 47 ∷ path)
