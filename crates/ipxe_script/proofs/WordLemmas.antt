-- Lists of words.
use Rattle.std.{proofs.{Common.{◌≡◌, ℕ, true, List, [], ◌∷◌, All, refl}, lemmas.{Bool.and_parts, List.Elements.{All-nil, All-cons, All-head, All-tail}}}, specs.List.list_all}
use Rattle.ipxe_script.specs.Word.{is_word, IsWord}
pub use Rattle.ipxe_script.specs.WordLaws.{IsWord-from_IsUri}

pub list_all-from_IsWord : (words : List (List ℕ)) → All IsWord words → list_all is_word words ≡ true
list_all-from_IsWord [] h = refl
list_all-from_IsWord (word ∷ words) h = rw (All-head IsWord word words h, list_all-from_IsWord words (All-tail IsWord word words h)) refl

pub IsWord-from_list_all : (words : List (List ℕ)) → list_all is_word words ≡ true → All IsWord words
IsWord-from_list_all [] h = All-nil IsWord
IsWord-from_list_all (word ∷ words) h =
    let parts = and_parts (is_word word) (list_all is_word words) h in
    All-cons IsWord word words parts.0 (IsWord-from_list_all words parts.1)
