-- A reply's octets read as what was written: its options field as the options, its file field as the file.
use Rattle.std.{proofs.{Common.{◌≡◌, ◌≢◌, ℕ, suc, ◌-◌, ◌≤◌, ◌<◌, List, [], ◌∷◌, ◌++◌, length, take, drop, get_or, Result, Ok, Err, refl, sym, ap, subst, ◌∙◌, arith, append_assoc, length-append}, lemmas.{Bool.ne_eqb, List.{take_at, drop_at, length-replicate, get_or_append_left, Sums.position_or_len_is}}, Math.Seq.get_or-append_seam}, specs.{Prelude.{◌==◌, All, slice_range, OnOk, is_ok, if◌then◌else◌}, List.{flat_map, before_first}}}
use Rattle.dhcp_frame.specs.{Area.{Entry, Reads, end, option}, Reply.{Reply, option_octets, area_octets, header_octets, reply_octets, zeros, AreOptions, start_octets, address_octets, name_octets, file_name}, Message.file_area, declared.layout.TheConstants.MAGIC_COOKIE}

-- the octets after the end octet don't matter
pub Reads-area_octets : (es : List Entry) (rest : List ℕ) → AreOptions es → Reads (area_octets es ++ rest) es
Reads-area_octets [] rest h = end rest
Reads-area_octets (e ∷ es) rest h =
    let options = flat_map option_octets es in
    let regrouped : (e.1 ++ options ++ 255 ∷ []) ++ rest ≡ e.1 ++ (area_octets es ++ rest) =
    ap (λ (x : List ℕ). x ++ rest) (append_assoc e.1 options (255 ∷ [])) ∙ append_assoc e.1 (area_octets es) rest in
    option _ e.0 e.1 (area_octets es ++ rest) es h.0.0 h.0.1 (ap (λ (x : List ℕ). e.0 ∷ length e.1 ∷ x) regrouped) (Reads-area_octets es rest h.1)

pub Reads-reply_octets : (r : Reply) → length (header_octets r) ≡ 240 → AreOptions r.options → Reads (drop 240 (reply_octets r)) r.options
unfolding reply_octets
Reads-reply_octets r long h =
    let es = r.options in
    let tail = zeros (300 - length (header_octets r ++ area_octets es)) in
    let after : drop 240 (reply_octets r) ≡ area_octets es ++ tail =
    ap (λ (x : List ℕ). drop 240 x) (append_assoc (header_octets r) (area_octets es) tail) ∙ drop_at (header_octets r) (area_octets es ++ tail) 240 long in
    subst (λ (x : List ℕ). Reads x es) (sym after) (Reads-area_octets es tail h)

-- a name field has its length, whatever the name
length-name_octets : (file : List ℕ) → length file ≤ 128 → length (name_octets file) ≡ 196
length-name_octets file h =
    let pad : length (zeros (128 - length file)) ≡ 128 - length file = length-replicate (128 - length file) 0 in
    let a = length-append (file ++ zeros (128 - length file)) MAGIC_COOKIE in
    let b = length-append file (zeros (128 - length file)) in
    omega arith

pub length-header_octets : (r : Reply) → length (address_octets r.ciaddr r.siaddr r.giaddr r.chaddr) ≡ 32 → length r.file ≤ 128 → length (header_octets r) ≡ 240
length-header_octets r addresses h =
    let names = length-name_octets r.file h in
    let a = length-append (start_octets r.xid r.flags ++ address_octets r.ciaddr r.siaddr r.giaddr r.chaddr) (name_octets r.file) in
    let b = length-append (start_octets r.xid r.flags) (address_octets r.ciaddr r.siaddr r.giaddr r.chaddr) in
    let d : length (start_octets r.xid r.flags) ≡ 12 = refl in
    omega arith

-- ---- the file field

-- a name ends before the zero that is after it
before_first-name : (name rest : List ℕ) → All (λ octet. octet ≢ 0) name → before_first (λ octet. octet == 0) (name ++ 0 ∷ rest) ≡ name
before_first-name name rest h =
    let long : length name < length (name ++ 0 ∷ rest) = omega (arith, length-append name (0 ∷ rest)) in
    let here = position_or_len_is (λ (octet : ℕ). octet == 0) (name ++ 0 ∷ rest) (length name) 1 (omega arith)
    (λ k below. rw (get_or_append_left name (0 ∷ rest) 1 k below) (ne_eqb (get_or name k 1) 0 (h k 1 below)))
    (λ _. rw (get_or-append_seam name 0 rest 1) refl) in
    rw here (take_at name (0 ∷ rest) (length name) refl)

middle : (front field after : List ℕ) → length front ≡ 108 → length field ≡ 128 → slice_range (front ++ (field ++ after)) 108 236 ≡ field
middle front field after f g =
    ap (λ (x : List ℕ). take 128 x) (drop_at front (field ++ after) 108 f) ∙ take_at field after 128 g

-- a name, and the zeros after it, fill the file field
name_field : (file : List ℕ) → length file ≤ 127 → file ++ zeros (128 - length file) ≡ file ++ 0 ∷ zeros (127 - length file)
name_field file h =
    let more : 128 - length file ≡ suc (127 - length file) = omega arith in
    ap (λ (n : ℕ). file ++ zeros n) more

-- the file field is the name and zeros
file_area-reply_octets : (r : Reply) → length (address_octets r.ciaddr r.siaddr r.giaddr r.chaddr) ≡ 32 → length r.file ≤ 127 → file_area (reply_octets r) ≡ r.file ++ 0 ∷ zeros (127 - length r.file)
unfolding reply_octets
file_area-reply_octets r addresses h =
    let start = start_octets r.xid r.flags in
    let others = address_octets r.ciaddr r.siaddr r.giaddr r.chaddr in
    let field = r.file ++ zeros (128 - length r.file) in
    let after = MAGIC_COOKIE ++ (area_octets r.options ++ zeros (300 - length (header_octets r ++ area_octets r.options))) in
    let whole : reply_octets r ≡ (start ++ others ++ zeros 64) ++ (field ++ after) = simp append_assoc in
    let front : length (start ++ others ++ zeros 64) ≡ 108 = omega (arith, length-append (start ++ others) (zeros 64), length-append start others) in
    let full : length field ≡ 128 = omega (arith, length-append r.file (zeros (128 - length r.file)), length-replicate {A = ℕ} (128 - length r.file) 0) in
    ap (λ (x : List ℕ). file_area x) whole ∙ middle (start ++ others ++ zeros 64) field after front full ∙ name_field r.file h

pub file_name-reply_octets : (r : Reply) → length (address_octets r.ciaddr r.siaddr r.giaddr r.chaddr) ≡ 32 → length r.file ≤ 127 → All (λ octet. octet ≢ 0) r.file → file_name (reply_octets r) ≡ r.file
file_name-reply_octets r addresses room h =
    ap (λ (x : List ℕ). before_first (λ octet. octet == 0) x) (file_area-reply_octets r addresses room)
    ∙ before_first-name r.file (zeros (127 - length r.file)) h

-- ---- appending

pub appended-as : {E : Type 0} (r : Result (Unit {0}) E) (old new part want : List ℕ) → new ≡ (if is_ok r then old ++ part else old) → part ≡ want → OnOk r (new ≡ old ++ want)
appended-as (Ok x) old new part want e same = e ∙ ap (λ (x : List ℕ). old ++ x) same
appended-as (Err fault) old new part want e same = tt
