-- Why what the first schema answers names no kind of erasing.
use Rattle.std.{proofs.{Common.{◌≡◌, ℕ, List, [], ◌∷◌, ◌++◌, refl, ap, ◌∙◌}, lemmas.{Bool.{both_ways, or_parts, Decides.Decides-eqb}, List.Elements.filter-append, Slice.Eq.starts_is}}, specs.Prelude.{Bool, true, false, not, filter, drop, Option, Some, None, codes, map, if◌then◌else◌}}
use Rattle.ipxe_script.specs.Word.{is_hall_word}
use Rattle.ipxe_script.specs.declared.command.Command.TheVariants as line
use Rattle.hall_types.specs.declared.kinds.Purpose.TheVariants as purpose
use Rattle.hall_events.specs.Reply.{machine_data, reply_of}
use Rattle.boot_desk.specs.Texts.{work_script}
use Rattle.hall_laws.specs.{Prelude.{BootImage, has_hall_word, Boot, Erase, Purpose, first, list_object, ListedMachine, machine_list, ok, one_machine, desk_arguments}, FirstSchema.{first_content, names_kind, plain, plain_listed}}

abbrev pub is_other : List ℕ → Bool
is_other word = not (names_kind word)

begins : (rest : List ℕ) → is_hall_word (codes "hall.erase=" ++ rest) ≡ true
unfolding is_hall_word
begins rest = refl

-- a word that doesn't begin `hall.` names no kind
names_none : (word : List ℕ) → is_hall_word word ≡ false → names_kind word ≡ false
names_none word not_hall = by (names_kind word) refl
  where
    by : (b : Bool) → names_kind word ≡ b → b ≡ false
    by true names =
        let is : word ≡ codes "hall.erase=" ++ drop 11 word = (starts_is Decides-eqb word (codes "hall.erase=") (names_kind word) refl).0 names in
        absurd (both_ways (is_hall_word word) not_hall (ap is_hall_word is ∙ begins (drop 11 word)))
    by false names = refl

own_stay : (args : List (List ℕ)) → has_hall_word args ≡ false → filter is_other args ≡ args
own_stay [] none = refl
own_stay (word ∷ args) none =
    let parts = or_parts (is_hall_word word) (has_hall_word args) none in
    ap (λ (b : Bool). if not b then word ∷ filter is_other args else filter is_other args) (names_none word parts.0)
    ∙ ap (λ (words : List (List ℕ)). word ∷ words) (own_stay args parts.1)

desk_plain : (host : List ℕ) (p : Purpose) (kind : Option Erase) (b : Boot) → filter is_other (desk_arguments host p kind b) ≡ desk_arguments host p None b
desk_plain host purpose.Erase None b = refl
desk_plain host purpose.Erase (Some kind) b = refl
desk_plain host other kind b = refl

pub plain_work : (host : List ℕ) (p : Purpose) (kind : Option Erase) (b : Boot) (image : BootImage)
    → has_hall_word image.args ≡ false → plain (work_script host p kind b image) ≡ work_script host p None b image
unfolding work_script
plain_work host p kind b image none =
    ap (λ (words : List (List ℕ)). line.Kernel image.kernel words ∷ line.Initrd image.initrd ∷ line.Boot ∷ [])
    (filter-append is_other image.args (desk_arguments host p kind b)
    ∙ (ap (λ (words : List (List ℕ)). words ++ filter is_other (desk_arguments host p kind b)) (own_stay image.args none)
    ∙ ap (λ (words : List (List ℕ)). image.args ++ words) (desk_plain host p kind b)))

-- ---- lists

same_data : (listed : ListedMachine) → machine_data first (plain_listed listed) ≡ machine_data first listed
unfolding machine_data
same_data listed = refl

-- what says the same of each item says the same of a list
same_mapped : {A B : Type 0} (f : A → B) (g : A → A) → ((a : A) → f (g a) ≡ f a) → (items : List A) → map f (map g items) ≡ map f items
same_mapped f g same [] = refl
same_mapped {B = B} f g same (a ∷ items) = ap (λ (b : B). b ∷ map f (map g items)) (same a) ∙ ap (λ (rest : List B). f a ∷ rest) (same_mapped f g same items)

pub plain_list : (machines : List ListedMachine) → reply_of first (first_content (machine_list machines)) ≡ reply_of first (machine_list machines)
unfolding reply_of
plain_list machines = ap (λ items. ok (list_object (codes "machines") items)) (same_mapped (machine_data first) plain_listed same_data machines)

pub plain_machine : (listed : ListedMachine) → reply_of first (first_content (one_machine listed)) ≡ reply_of first (one_machine listed)
unfolding reply_of
plain_machine listed = ap ok (same_data listed)
