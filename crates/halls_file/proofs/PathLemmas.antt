-- The folder of a path.
use Rattle.std.{proofs.{Common.{ℕ, List, ◌++◌, Some, take, drop, sym, ap, ◌∙◌}, lemmas.List.take-append-drop}, specs.Str.Pattern.RFindsChar}
use lib.Utf8.{encode}
use Rattle.halls_file.specs.Paths.{IsIn}

pub folder_at : (path : List ℕ) (i j : ℕ) → RFindsChar 47 path (Some (i, j)) → IsIn (take i path) path
unfolding encode
folder_at path i j found = (drop j path, found.0, sym (take-append-drop i path) ∙ ap (λ rest. take i path ++ rest) found.1.split)
