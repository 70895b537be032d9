-- Samples as text, and a plain reader of them (Prometheus' text format 0.0.4, and OpenMetrics 1.0, both without timestamps and exemplars).
use Rattle.std.specs.{Prelude.{◌≡◌, ℕ, List, [], ◌∷◌, ◌++◌, flat_map, fold, codes, if◌then◌else◌, ◌==◌, not, Bool, ◌&&◌}, List.list_all}

-- a value, with the name of its family and its labels
pub record Sample : Type 0 where
  pub name : List ℕ
  pub labels : List (List ℕ × List ℕ)
  pub value : List ℕ

-- an octet of a label's value as it is written: a `\` stands before `\` and `"`, and a line's end is `\n`
unfoldable pub escaped : ℕ → List ℕ
escaped octet =
    if octet == 92 then codes "\\\\"
    else if octet == 34 then codes "\\\""
    else if octet == 10 then codes "\\n"
    else octet ∷ []

-- ---- a reader

-- what a reader reads next
pub data Place : Type 0 where
  Line : Place
  Comment : Place
  Name : Place
  LabelName : Place
  Quote : Place
  Text : Place
  Escape : Place
  Comma : Place
  Space : Place
  Number : Place
  Nothing : Place

-- the samples of the lines so far, and what was read of the line that has begun
pub record Reading : Type 0 where
  pub samples : List Sample
  pub sample : Sample
  pub label : List ℕ
  pub word : List ℕ
  pub place : Place

abbrev pub no_sample : Sample
no_sample = record { name = []; labels = []; value = [] }

-- a reader at the beginning of a line
abbrev pub at_line : List Sample → Reading
at_line samples = record { samples = samples; sample = no_sample; label = []; word = []; place = Line }

-- in a line that isn't a sample's
abbrev pub lost : Reading → Reading
lost reading = record reading { place = Nothing }

-- one more octet of a word
abbrev pub longer : Reading → ℕ → Reading
longer reading octet = record reading { word = reading.word ++ octet ∷ [] }

abbrev pub named : Sample → List ℕ → Sample
named sample name = record sample { name = name }

abbrev pub with_label : Sample → List ℕ → List ℕ → Sample
with_label sample label text = record sample { labels = sample.labels ++ (label, text) ∷ [] }

abbrev pub with_value : Sample → List ℕ → Sample
with_value sample value = record sample { value = value }

-- one more octet is read
unfoldable pub step_at : Place → Reading → ℕ → Reading
step_at Line reading octet = if octet == 35 then record reading { place = Comment } else record reading { word = octet ∷ []; place = Name }
step_at Comment reading octet = if octet == 10 then record reading { place = Line } else reading
step_at Name reading octet =
    if octet == 123 then record reading { sample = named reading.sample reading.word; word = []; place = LabelName } else longer reading octet
step_at LabelName reading octet = if octet == 61 then record reading { label = reading.word; word = []; place = Quote } else longer reading octet
step_at Quote reading octet = if octet == 34 then record reading { place = Text } else lost reading
step_at Text reading octet =
    if octet == 92 then record reading { place = Escape }
    else if octet == 34 then record reading { sample = with_label reading.sample reading.label reading.word; label = []; word = []; place = Comma }
    else longer reading octet
step_at Escape reading octet = record reading { word = reading.word ++ (if octet == 110 then 10 else octet) ∷ []; place = Text }
step_at Comma reading octet = if octet == 44 then record reading { place = LabelName } else if octet == 125 then record reading { place = Space } else lost reading
step_at Space reading octet = if octet == 32 then record reading { place = Number } else lost reading
step_at Number reading octet =
    if octet == 10 then at_line (reading.samples ++ with_value reading.sample reading.word ∷ []) else longer reading octet
step_at Nothing reading octet = reading

abbrev pub step : Reading → ℕ → Reading
step reading octet = step_at reading.place reading octet

abbrev pub read_more : Reading → List ℕ → Reading
read_more reading octets = fold step reading octets

-- what a reader finds in a text
abbrev pub read : List ℕ → Reading
read octets = read_more (at_line []) octets

-- whole lines, in which a reader finds these samples
abbrev pub AreLines : List ℕ → List Sample → Type 0
AreLines octets samples = (before : List Sample) → read_more (at_line before) octets ≡ at_line (before ++ samples)

-- ---- what a writer writes

-- after the labels of a sample
abbrev pub after_labels : List Sample → Sample → Reading
after_labels samples sample = record { samples = samples; sample = sample; label = []; word = []; place = Comma }

-- a sample up to its labels, or to some of them
abbrev pub IsBegun : List ℕ → Sample → Type 0
IsBegun octets sample = (before : List Sample) → read_more (at_line before) octets ≡ after_labels before sample

-- a label with its value
abbrev pub label_text : List ℕ → List ℕ → List ℕ
label_text label text = label ++ codes "=\"" ++ flat_map escaped text ++ codes "\""

-- a text without a line's end
abbrev pub is_one_line : List ℕ → Bool
is_one_line = list_all (λ octet. not (octet == 10))

-- a name without what ends it
abbrev pub is_plain : List ℕ → Bool
is_plain = list_all (λ octet. not (octet == 123) && not (octet == 61))
