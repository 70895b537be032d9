-- Pages as markup, and the texts that stand in it (HTML Living Standard, section 13.1.2, as far as a page of these parts needs it).
use Rattle.std.specs.{Prelude.{◌≡◌, ◌≢◌, ℕ, List, [], ◌∷◌, ◌++◌, flat_map, fold, codes, if◌then◌else◌, ◌==◌, Option, None, Some}, Str.bytes_eq}
use Rattle.hallview_pages.specs.declared.markup.Place.{Place, TheVariants.{Text, Tag, Quoted}}

-- where a reader stands after one more octet: `<` begins a tag, `>` ends it, and within a tag a double quote begins and ends a value
unfoldable pub step : Place → ℕ → Place
step Text octet = if octet == 60 then Tag else Text
step Tag octet = if octet == 62 then Text else if octet == 34 then Quoted else Tag
step Quoted octet = if octet == 34 then Tag else Quoted

-- where a reader stands after these octets
abbrev pub after : Place → List ℕ → Place
after place octets = fold step place octets

-- an octet of a text as a page has it: `&`, `<`, `>` and both quotes are entities
unfoldable pub entity : ℕ → List ℕ
entity octet =
    if octet == 38 then codes "&amp;"
    else if octet == 60 then codes "&lt;"
    else if octet == 62 then codes "&gt;"
    else if octet == 34 then codes "&quot;"
    else if octet == 39 then codes "&#39;"
    else octet ∷ []

-- a text as a page has it
abbrev pub escape : List ℕ → List ℕ
escape text = flat_map entity text

-- a page is written part by part: markup of the program's own, or a text where the reader is in no tag
pub data IsPage : List ℕ → Type 0 where
  empty : IsPage []
  markup : (page part : List ℕ) → IsPage page → IsPage (page ++ part)
  text : (page part : List ℕ) → IsPage page → after Text page ≢ Tag → IsPage (page ++ escape part)

-- a page without its texts
unfoldable pub bare : {octets : List ℕ} → IsPage octets → List ℕ
bare empty = []
bare (markup page part written) = bare written ++ part
bare (text page part written outside) = bare written

-- what stands in tags: their names, and those of attributes
unfoldable pub tags : Place → List ℕ → List ℕ
tags place [] = []
tags Tag (octet ∷ octets) = octet ∷ tags (step Tag octet) octets
tags place (octet ∷ octets) = tags (step place octet) octets

-- ---- texts, read back

-- what was read of a text so far, and of an entity that has begun
pub record Reading : Type 0 where
  pub read : List ℕ
  pub entity_name : Option (List ℕ)

-- the octet that an entity stands for
abbrev pub meaning : List ℕ → List ℕ
meaning name =
    if bytes_eq name (codes "amp") then 38 ∷ []
    else if bytes_eq name (codes "lt") then 60 ∷ []
    else if bytes_eq name (codes "gt") then 62 ∷ []
    else if bytes_eq name (codes "quot") then 34 ∷ []
    else if bytes_eq name (codes "#39") then 39 ∷ []
    else []

-- one more octet is read: `&` begins an entity, `;` ends it
unfoldable pub read_step : Reading → ℕ → Reading
read_step reading octet = elim (reading.entity_name) [
  | None ↦ if octet == 38 then record { read = reading.read; entity_name = Some [] } else record { read = reading.read ++ octet ∷ []; entity_name = None }
  | Some name ↦ if octet == 59 then record { read = reading.read ++ meaning name; entity_name = None } else record { read = reading.read; entity_name = Some (name ++ octet ∷ []) }
]

-- what a reader of a page finds in the octets of a text
abbrev pub read_text : List ℕ → List ℕ
read_text octets = (fold read_step (record { read = []; entity_name = None }) octets).read
