-- How old what is shown is. No page shows a hall by an old list as if it were of now.
use Rattle.std.specs.Prelude.{◌≡◌, ◌-◌, ℕ, List, ◌++◌, Option, None, Some, codes, is_none, option_map, All, true}
use Rattle.hallview_state.specs.{Age.is_stale, declared.{hall.Hall.{Hall}, state.State.{State}}}
use Rattle.hallview_state.specs.Spans.{span_text}
use Rattle.hallview_pages.specs.Markup.{escape}

-- when the last list came, if there is one
abbrev pub listed_at : Hall → Option ℕ
listed_at hall = option_map (λ list. list.at) hall.list

-- how old a list of this moment is
abbrev pub age_words : ℕ → Option ℕ → List ℕ
age_words now None = codes "Nothing is known of it yet."
age_words now (Some at) = codes "What is shown of it is " ++ span_text (now - at) ++ codes " old."

-- a text says how old what is shown of a hall is, and why
abbrev pub SaysAge : Hall → ℕ → List ℕ → Type 0
SaysAge hall now text = (cause : List ℕ) × (text ≡ hall.name ++ codes ": " ++ cause ++ codes " " ++ age_words now (listed_at hall))

-- a page has a text
abbrev pub Shows : List ℕ → List ℕ → Type 0
Shows page text = (before after : List ℕ) × (page ≡ before ++ escape text ++ after)

-- if a hall's list is old, a page says how old
abbrev pub Told : ℕ → List ℕ → Hall → Type 0
Told now page hall =
    is_stale now hall.every (is_none hall.loss) (listed_at hall) ≡ true → (text : List ℕ) × SaysAge hall now text × Shows page text

-- a page says of each hall whose list is old how old that is
abbrev pub TellsAges : State → ℕ → List ℕ → Type 0
TellsAges state now page = All (Told now page) state.halls.items

-- a page goes on
abbrev pub Grows : List ℕ → List ℕ → Type 0
Grows page more = (rest : List ℕ) × (more ≡ page ++ rest)
