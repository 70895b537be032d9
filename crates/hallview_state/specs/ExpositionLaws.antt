-- Laws of samples as text: a reader finds each sample that is written, and nothing else.
use Rattle.std.{proofs.{Common.{◌≡◌, ℕ, Bool, true, false, List, [], ◌∷◌, ◌++◌, refl, sym, ap, ◌∙◌, append-nil, append_assoc}, lemmas.{Bool.{and_parts, eqb-true, not-true}, List.{Sums.fold-append, Concat.flat_map-cons}}}, specs.{Prelude.{codes, flat_map, if◌then◌else◌, ◌==◌, ◌&&◌, not}}}
use Rattle.hallview_state.specs.Exposition.{AreLines, IsBegun, Sample, Reading, Place.{Comment, Name, LabelName, Quote, Text, Escape, Number}, escaped, at_line, after_labels, no_sample, named, with_label, with_value, step, step_at, read, read_more, label_text, is_one_line, is_plain}

-- ---- words

abbrev in_name : List Sample → List ℕ → Reading
in_name samples word = record { samples = samples; sample = no_sample; label = []; word = word; place = Name }

abbrev in_label : List Sample → Sample → List ℕ → Reading
in_label samples sample word = record { samples = samples; sample = sample; label = []; word = word; place = LabelName }

abbrev in_text : List Sample → Sample → List ℕ → List ℕ → Reading
in_text samples sample label word = record { samples = samples; sample = sample; label = label; word = word; place = Text }

abbrev in_number : List Sample → Sample → List ℕ → Reading
in_number samples sample word = record { samples = samples; sample = sample; label = []; word = word; place = Number }

abbrev in_comment : List Sample → Reading
in_comment samples = record { samples = samples; sample = no_sample; label = []; word = []; place = Comment }

reads_name : (samples : List Sample) (word more : List ℕ) → is_plain more ≡ true → read_more (in_name samples word) more ≡ in_name samples (word ++ more)
unfolding step_at
reads_name samples word [] h = ap (in_name samples) (sym (append-nil word))
reads_name samples word (octet ∷ more) h =
    let both = and_parts (not (octet == 123) && not (octet == 61)) (is_plain more) h in
    let first = not-true (octet == 123) (and_parts (not (octet == 123)) (not (octet == 61)) both.0).0 in
    ap (λ (test : Bool). read_more (if test then record { samples = samples; sample = named no_sample word; label = []; word = []; place = LabelName } else in_name samples (word ++ octet ∷ [])) more) first
    ∙ reads_name samples (word ++ octet ∷ []) more both.1
    ∙ ap (in_name samples) (append_assoc word (octet ∷ []) more)

reads_label : (samples : List Sample) (sample : Sample) (word more : List ℕ) → is_plain more ≡ true
    → read_more (in_label samples sample word) more ≡ in_label samples sample (word ++ more)
unfolding step_at
reads_label samples sample word [] h = ap (in_label samples sample) (sym (append-nil word))
reads_label samples sample word (octet ∷ more) h =
    let both = and_parts (not (octet == 123) && not (octet == 61)) (is_plain more) h in
    let first = not-true (octet == 61) (and_parts (not (octet == 123)) (not (octet == 61)) both.0).1 in
    ap (λ (test : Bool). read_more (if test then record { samples = samples; sample = sample; label = word; word = []; place = Quote } else in_label samples sample (word ++ octet ∷ [])) more) first
    ∙ reads_label samples sample (word ++ octet ∷ []) more both.1
    ∙ ap (in_label samples sample) (append_assoc word (octet ∷ []) more)

reads_number : (samples : List Sample) (sample : Sample) (word more : List ℕ) → is_one_line more ≡ true
    → read_more (in_number samples sample word) more ≡ in_number samples sample (word ++ more)
unfolding step_at
reads_number samples sample word [] h = ap (in_number samples sample) (sym (append-nil word))
reads_number samples sample word (octet ∷ more) h =
    let both = and_parts (not (octet == 10)) (is_one_line more) h in
    ap (λ (test : Bool). read_more (if test then at_line (samples ++ with_value sample word ∷ []) else in_number samples sample (word ++ octet ∷ [])) more) (not-true (octet == 10) both.0)
    ∙ reads_number samples sample (word ++ octet ∷ []) more both.1
    ∙ ap (in_number samples sample) (append_assoc word (octet ∷ []) more)

reads_comment : (samples : List Sample) (more : List ℕ) → is_one_line more ≡ true → read_more (in_comment samples) more ≡ in_comment samples
unfolding step_at
reads_comment samples [] h = refl
reads_comment samples (octet ∷ more) h =
    let both = and_parts (not (octet == 10)) (is_one_line more) h in
    ap (λ (test : Bool). read_more (if test then at_line samples else in_comment samples) more) (not-true (octet == 10) both.0)
    ∙ reads_comment samples more both.1

-- ---- labels' values

-- an octet as it is written, by what it is
abbrev escaped_by : ℕ → (a b c : Bool) → List ℕ
escaped_by octet a b c = if a then codes "\\\\" else if b then codes "\\\"" else if c then codes "\\n" else octet ∷ []

reads_octet : (samples : List Sample) (sample : Sample) (label word : List ℕ) (octet : ℕ) (a b c : Bool) → (octet == 92) ≡ a → (octet == 34) ≡ b → (octet == 10) ≡ c
    → read_more (in_text samples sample label word) (escaped_by octet a b c) ≡ in_text samples sample label (word ++ octet ∷ [])
unfolding step_at
reads_octet samples sample label word octet true b c ha hb hc = ap (λ (one : ℕ). in_text samples sample label (word ++ one ∷ [])) (sym (eqb-true octet 92 ha))
reads_octet samples sample label word octet false true c ha hb hc = ap (λ (one : ℕ). in_text samples sample label (word ++ one ∷ [])) (sym (eqb-true octet 34 hb))
reads_octet samples sample label word octet false false true ha hb hc = ap (λ (one : ℕ). in_text samples sample label (word ++ one ∷ [])) (sym (eqb-true octet 10 hc))
reads_octet samples sample label word octet false false false ha hb hc =
    ap (λ (test : Bool).
    if test then record { samples = samples; sample = sample; label = label; word = word; place = Escape }
    else if octet == 34 then after_labels samples (with_label sample label word)
    else in_text samples sample label (word ++ octet ∷ [])) ha
    ∙ ap (λ (test : Bool). if test then after_labels samples (with_label sample label word) else in_text samples sample label (word ++ octet ∷ [])) hb

reads_escaped : (samples : List Sample) (sample : Sample) (label word : List ℕ) (octet : ℕ)
    → read_more (in_text samples sample label word) (escaped octet) ≡ in_text samples sample label (word ++ octet ∷ [])
unfolding escaped
reads_escaped samples sample label word octet = reads_octet samples sample label word octet (octet == 92) (octet == 34) (octet == 10) refl refl refl

reads_text : (samples : List Sample) (sample : Sample) (label word text : List ℕ)
    → read_more (in_text samples sample label word) (flat_map escaped text) ≡ in_text samples sample label (word ++ text)
reads_text samples sample label word [] = ap (in_text samples sample label) (sym (append-nil word))
reads_text samples sample label word (octet ∷ text) =
    ap (read_more (in_text samples sample label word)) (flat_map-cons escaped octet text)
    ∙ fold-append step (in_text samples sample label word) (escaped octet) (flat_map escaped text)
    ∙ ap (λ (reading : Reading). read_more reading (flat_map escaped text)) (reads_escaped samples sample label word octet)
    ∙ reads_text samples sample label (word ++ octet ∷ []) text
    ∙ ap (in_text samples sample label) (append_assoc word (octet ∷ []) text)

-- ---- lines

-- a line that begins with `#`, without its end
pub comments_are_skipped : (text : List ℕ) → is_one_line text ≡ true → AreLines (codes "#" ++ text ++ codes "\n") []
unfolding step_at
comments_are_skipped text h before =
    fold-append step (in_comment before) text (codes "\n")
    ∙ ap (λ (reading : Reading). read_more reading (codes "\n")) (reads_comment before text h)
    ∙ ap at_line (sym (append-nil before))

-- a sample's name, which doesn't begin with `#`
names_are_read : (samples : List Sample) (first : ℕ) (more : List ℕ) → (first == 35) ≡ false → is_plain more ≡ true
    → read_more (at_line samples) ((first ∷ more) ++ codes "{") ≡ in_label samples (named no_sample (first ∷ more)) []
unfolding step_at
names_are_read samples first more h plain =
    ap (λ (test : Bool). read_more (if test then in_comment samples else in_name samples (first ∷ [])) (more ++ codes "{")) h
    ∙ fold-append step (in_name samples (first ∷ [])) more (codes "{")
    ∙ ap (λ (reading : Reading). read_more reading (codes "{")) (reads_name samples (first ∷ []) more plain)

-- a label with its value
labels_are_read : (samples : List Sample) (sample : Sample) (label text : List ℕ) → is_plain label ≡ true
    → read_more (in_label samples sample []) (label_text label text) ≡ after_labels samples (with_label sample label text)
unfolding step_at
labels_are_read samples sample label text plain =
    fold-append step (in_label samples sample []) (label ++ codes "=\"" ++ flat_map escaped text) (codes "\"")
    ∙ ap (λ (reading : Reading). read_more reading (codes "\"")) (
    fold-append step (in_label samples sample []) (label ++ codes "=\"") (flat_map escaped text)
    ∙ ap (λ (reading : Reading). read_more reading (flat_map escaped text)) (
    fold-append step (in_label samples sample []) label (codes "=\"")
    ∙ ap (λ (reading : Reading). read_more reading (codes "=\"")) (reads_label samples sample [] label plain))
    ∙ reads_text samples sample label [] text)

-- a sample with its first label
pub samples_begin : (first : ℕ) (more label text : List ℕ) → (first == 35) ≡ false → is_plain more ≡ true → is_plain label ≡ true
    → IsBegun ((first ∷ more) ++ codes "{" ++ label_text label text) (with_label (named no_sample (first ∷ more)) label text)
samples_begin first more label text h plain label_plain before =
    fold-append step (at_line before) ((first ∷ more) ++ codes "{") (label_text label text)
    ∙ ap (λ (reading : Reading). read_more reading (label_text label text)) (names_are_read before first more h plain)
    ∙ labels_are_read before (named no_sample (first ∷ more)) label text label_plain

-- another label
pub samples_go_on : (octets : List ℕ) (sample : Sample) (label text : List ℕ) → is_plain label ≡ true
    → IsBegun octets sample → IsBegun (octets ++ codes "," ++ label_text label text) (with_label sample label text)
unfolding step_at
samples_go_on octets sample label text plain begun before =
    fold-append step (at_line before) (octets ++ codes ",") (label_text label text)
    ∙ ap (λ (reading : Reading). read_more reading (label_text label text)) (
    fold-append step (at_line before) octets (codes ",")
    ∙ ap (λ (reading : Reading). read_more reading (codes ",")) (begun before))
    ∙ labels_are_read before sample label text plain

-- the value
pub samples_end : (octets : List ℕ) (sample : Sample) (value : List ℕ) → is_one_line value ≡ true
    → IsBegun octets sample → AreLines (octets ++ codes "} " ++ value ++ codes "\n") (with_value sample value ∷ [])
unfolding step_at
samples_end octets sample value h begun before =
    fold-append step (at_line before) (octets ++ codes "} " ++ value) (codes "\n")
    ∙ ap (λ (reading : Reading). read_more reading (codes "\n")) (
    fold-append step (at_line before) (octets ++ codes "} ") value
    ∙ ap (λ (reading : Reading). read_more reading value) (
    fold-append step (at_line before) octets (codes "} ")
    ∙ ap (λ (reading : Reading). read_more reading (codes "} ")) (begun before))
    ∙ reads_number before sample [] value h)

-- lines after lines
pub lines_go_on : (octets line : List ℕ) (samples more : List Sample) → read octets ≡ at_line samples → AreLines line more → read (octets ++ line) ≡ at_line (samples ++ more)
lines_go_on octets line samples more is lines =
    fold-append step (at_line []) octets line ∙ ap (λ (reading : Reading). read_more reading line) is ∙ lines samples
