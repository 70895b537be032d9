-- Laws of pages: their tags are the program's own, and each text is read back as it is.
use Rattle.std.{proofs.{Common.{◌≡◌, ◌≢◌, ℕ, Bool, true, false, List, [], ◌∷◌, ◌++◌, refl, sym, ap, ◌∙◌, Some, None, subst, append-nil, append_assoc}, lemmas.{List.{Sums.fold-append, Concat.flat_map-cons}, Bool.eqb-true}}, specs.Prelude.{codes, flat_map, fold, if◌then◌else◌, ◌==◌}}
use Rattle.hallview_pages.specs.{Markup.{after, bare, entity, escape, step, tags, IsPage, read_step, read_text, Reading}, declared.markup.Place.{Place, TheVariants.{Text, Tag, Quoted}}}
use Rattle.hallview_pages.specs.Markup.IsPage.{empty, markup, text}

-- ---- an entity, outside of tags

-- the entity of an octet, by what the octet is
abbrev entity_by : ℕ → (a b c d e : Bool) → List ℕ
entity_by octet a b c d e =
    if a then codes "&amp;" else if b then codes "&lt;" else if c then codes "&gt;" else if d then codes "&quot;" else if e then codes "&#39;" else octet ∷ []

stays : (place : Place) → place ≢ Tag → (octet : ℕ) (a b c d e : Bool) → (octet == 60) ≡ b → (octet == 34) ≡ d → after place (entity_by octet a b c d e) ≡ place
unfolding step
stays Tag outside octet a b c d e h i = absurd (outside refl)
stays Text outside octet true b c d e h i = refl
stays Text outside octet false true c d e h i = refl
stays Text outside octet false false true d e h i = refl
stays Text outside octet false false false true e h i = refl
stays Text outside octet false false false false true h i = refl
stays Text outside octet false false false false false h i = ap (λ (test : Bool). if test then Tag else Text) h
stays Quoted outside octet true b c d e h i = refl
stays Quoted outside octet false true c d e h i = refl
stays Quoted outside octet false false true d e h i = refl
stays Quoted outside octet false false false true e h i = refl
stays Quoted outside octet false false false false true h i = refl
stays Quoted outside octet false false false false false h i = ap (λ (test : Bool). if test then Tag else Quoted) i

entity_stays : (place : Place) → place ≢ Tag → (octet : ℕ) → after place (entity octet) ≡ place
unfolding entity
entity_stays place outside octet = stays place outside octet (octet == 38) (octet == 60) (octet == 62) (octet == 34) (octet == 39) refl refl

bare_of_tags : (place : Place) → place ≢ Tag → (octet : ℕ) (a b c d e : Bool) → tags place (entity_by octet a b c d e) ≡ []
unfolding step tags
bare_of_tags Tag outside octet a b c d e = absurd (outside refl)
bare_of_tags Text outside octet true b c d e = refl
bare_of_tags Text outside octet false true c d e = refl
bare_of_tags Text outside octet false false true d e = refl
bare_of_tags Text outside octet false false false true e = refl
bare_of_tags Text outside octet false false false false true = refl
bare_of_tags Text outside octet false false false false false = refl
bare_of_tags Quoted outside octet true b c d e = refl
bare_of_tags Quoted outside octet false true c d e = refl
bare_of_tags Quoted outside octet false false true d e = refl
bare_of_tags Quoted outside octet false false false true e = refl
bare_of_tags Quoted outside octet false false false false true = refl
bare_of_tags Quoted outside octet false false false false false = refl

entity_has_no_tags : (place : Place) → place ≢ Tag → (octet : ℕ) → tags place (entity octet) ≡ []
unfolding entity
entity_has_no_tags place outside octet = bare_of_tags place outside octet (octet == 38) (octet == 60) (octet == 62) (octet == 34) (octet == 39)

-- ---- a text, outside of tags

tags-append : (place : Place) (xs ys : List ℕ) → tags place (xs ++ ys) ≡ tags place xs ++ tags (after place xs) ys
unfolding tags
tags-append place [] ys = refl
tags-append Tag (x ∷ xs) ys = ap (λ (rest : List ℕ). x ∷ rest) (tags-append (step Tag x) xs ys)
tags-append Text (x ∷ xs) ys = tags-append (step Text x) xs ys
tags-append Quoted (x ∷ xs) ys = tags-append (step Quoted x) xs ys

-- a text leaves a reader where it stands
pub text_stays : (place : Place) → place ≢ Tag → (part : List ℕ) → after place (escape part) ≡ place
text_stays place outside [] = refl
text_stays place outside (octet ∷ part) =
    ap (after place) (flat_map-cons entity octet part)
    ∙ fold-append step place (entity octet) (escape part)
    ∙ ap (λ (at : Place). after at (escape part)) (entity_stays place outside octet)
    ∙ text_stays place outside part

-- a text has nothing in tags
pub text_has_no_tags : (place : Place) → place ≢ Tag → (part : List ℕ) → tags place (escape part) ≡ []
unfolding tags
text_has_no_tags place outside [] = refl
text_has_no_tags place outside (octet ∷ part) =
    ap (tags place) (flat_map-cons entity octet part)
    ∙ tags-append place (entity octet) (escape part)
    ∙ ap (λ (first : List ℕ). first ++ tags (after place (entity octet)) (escape part)) (entity_has_no_tags place outside octet)
    ∙ ap (λ (at : Place). tags at (escape part)) (entity_stays place outside octet)
    ∙ text_has_no_tags place outside part

-- ---- pages

ends_alike : {octets : List ℕ} (written : IsPage octets) → after Text octets ≡ after Text (bare written)
unfolding bare
ends_alike empty = refl
ends_alike (markup page part written) =
    fold-append step Text page part ∙ ap (λ (at : Place). after at part) (ends_alike written) ∙ sym (fold-append step Text (bare written) part)
ends_alike (text page part written outside) =
    fold-append step Text page (escape part) ∙ text_stays (after Text page) outside part ∙ ends_alike written

-- whatever the texts of a page are, what stands in its tags is what stands in those of the program's own markup
pub tags_are_markup : {octets : List ℕ} (written : IsPage octets) → tags Text octets ≡ tags Text (bare written)
unfolding bare tags
tags_are_markup empty = refl
tags_are_markup (markup page part written) =
    tags-append Text page part
    ∙ ap (λ (first : List ℕ). first ++ tags (after Text page) part) (tags_are_markup written)
    ∙ ap (λ (at : Place). tags Text (bare written) ++ tags at part) (ends_alike written)
    ∙ sym (tags-append Text (bare written) part)
tags_are_markup (text page part written outside) =
    tags-append Text page (escape part)
    ∙ ap (λ (rest : List ℕ). tags Text page ++ rest) (text_has_no_tags (after Text page) outside part)
    ∙ append-nil (tags Text page)
    ∙ tags_are_markup written

-- a page that follows another one, which ends in text
pub joined : {one other : List ℕ} → IsPage one → after Text one ≡ Text → IsPage other → IsPage (one ++ other)
joined {one} first ends empty = subst IsPage (sym (append-nil one)) first
joined {one} first ends (markup page part written) = subst IsPage (append_assoc one page part) (markup (one ++ page) part (joined first ends written))
joined {one} first ends (text page part written outside) =
    let place = fold-append step Text one page ∙ ap (λ (at : Place). after at page) ends in
    subst IsPage (append_assoc one page (escape part)) (text (one ++ page) part (joined first ends written) (λ is. outside (sym place ∙ is)))

-- ---- texts, read back

-- what was read, with no entity begun
abbrev outside : List ℕ → Reading
outside read = record { read = read; entity_name = None }

reads : (read : List ℕ) (octet : ℕ) (a b c d e : Bool) → (octet == 38) ≡ a → (octet == 60) ≡ b → (octet == 62) ≡ c → (octet == 34) ≡ d → (octet == 39) ≡ e
    → fold read_step (outside read) (entity_by octet a b c d e) ≡ outside (read ++ octet ∷ [])
unfolding read_step
reads read octet true b c d e ha hb hc hd he = ap (λ (one : ℕ). outside (read ++ one ∷ [])) (sym (eqb-true octet 38 ha))
reads read octet false true c d e ha hb hc hd he = ap (λ (one : ℕ). outside (read ++ one ∷ [])) (sym (eqb-true octet 60 hb))
reads read octet false false true d e ha hb hc hd he = ap (λ (one : ℕ). outside (read ++ one ∷ [])) (sym (eqb-true octet 62 hc))
reads read octet false false false true e ha hb hc hd he = ap (λ (one : ℕ). outside (read ++ one ∷ [])) (sym (eqb-true octet 34 hd))
reads read octet false false false false true ha hb hc hd he = ap (λ (one : ℕ). outside (read ++ one ∷ [])) (sym (eqb-true octet 39 he))
reads read octet false false false false false ha hb hc hd he =
    ap (λ (test : Bool). if test then record { read = read; entity_name = Some [] } else outside (read ++ octet ∷ [])) ha

reads_entity : (read : List ℕ) (octet : ℕ) → fold read_step (outside read) (entity octet) ≡ outside (read ++ octet ∷ [])
unfolding entity
reads_entity read octet = reads read octet (octet == 38) (octet == 60) (octet == 62) (octet == 34) (octet == 39) refl refl refl refl refl

reads_more : (read part : List ℕ) → fold read_step (outside read) (escape part) ≡ outside (read ++ part)
reads_more read [] = ap outside (sym (append-nil read))
reads_more read (octet ∷ part) =
    ap (fold read_step (outside read)) (flat_map-cons entity octet part)
    ∙ fold-append read_step (outside read) (entity octet) (escape part)
    ∙ ap (λ (reading : Reading). fold read_step reading (escape part)) (reads_entity read octet)
    ∙ reads_more (read ++ octet ∷ []) part
    ∙ ap outside (append_assoc read (octet ∷ []) part)

-- a reader finds in a text's octets the text
pub texts_read_back : (part : List ℕ) → read_text (escape part) ≡ part
texts_read_back part = ap (λ (reading : Reading). reading.read) (reads_more [] part)
