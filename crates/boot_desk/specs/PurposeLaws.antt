-- Laws of what kernels are told to do, for the proofs of callers.
use Rattle.std.{proofs.{Common.{◌≡◌, ℕ, ◌⊎◌, true, false, List, [], ◌∷◌, ◌++◌, refl, sym, ap, subst, ◌∙◌, inl, inr, arith}, lemmas.{Bool.{or_parts, both_ways}, List.Elements.{Contains-append_cases, Contains-append_left, Contains-append_right}, Slice.Eq.bytes_eq-Decides}}, specs.{Prelude.{Option, Some, Ok, Contains, bytes_eq, codes}, List.list_any, Fmt.decimal}}
use Rattle.hex.specs.Hex.{encode_lower}
use Rattle.pxe_vendor.specs.declared.arch.Arch.{Arch}
use Rattle.pxe_vendor.specs.declared.arch.Arch.TheVariants as arch
use Rattle.ipxe_script.specs.{Purpose.{HasKernelWord, is_kernel}, PurposeLaws.{Contains-cases, HasKernelWord-boot, HasKernelWord-no_kernel, IsArgument-hall}, Script.{spelling, IsScript}, Word.is_hall_word, declared.command.Command.Command}
use Rattle.hall_types.specs.{Image.{BootImage, has_hall_word}, Kinds.{erase_text, purpose_text}, declared.{boot.Boot.Boot, change.RowWrite.RowWrite, kinds.{Erase.Erase, Purpose.Purpose}, status.Status.{Status, TheVariants.{Deploying, DiskErasing, ExitingRescue}}}}
use Rattle.hall_types.specs.declared.kinds.Erase.TheVariants as erase
use Rattle.hall_types.specs.declared.kinds.Purpose.TheVariants as purpose
use Rattle.life_cycle.specs.{Table.step_of, declared.signal.Signal.TheVariants.FourthBoot}
use Rattle.boot_desk.specs.{declared.{class.ScriptClass.TheVariants.Work, views.BootView.BootView}, ClassLaws.{is_work, works_after_rescue}, Class.{class_in, class_after_rescue}, DecisionLaws.{IfOk, answering_gives, fetched_cases, if_ok}, Fetch.{fetched, image_for, new_boot}, Following.followed, Purposes.{IsWork, HasNoHallWords, ErasesBy}, Texts.{desk_arguments, erase_argument, hold_script, local_script, work_script}}

-- ---- a script of a script request starts no kernel, or it is that of the machine's work

abbrev Given : List ℕ → BootView → List Command → Type 0
Given host v script = (list_any is_kernel script ≡ false) ⊎ ((purpose : Purpose) × IsWork host v purpose script)

abbrev Gives : List ℕ → BootView → List RowWrite × List Command → Type 0
Gives host v d = Given host v d.1

local_has_no_kernel : (a : Arch) → list_any is_kernel (local_script a) ≡ false
unfolding local_script
local_has_no_kernel arch.Bios = refl
local_has_no_kernel other = refl

hold_has_no_kernel : list_any is_kernel hold_script ≡ false
unfolding hold_script
hold_has_no_kernel = refl

pub given : (host : List ℕ) (v : BootView) (moment : ℕ) (fresh : List ℕ) (rows : List RowWrite) (script : List Command)
    → fetched host v moment fresh ≡ Ok (rows, script) → Given host v script
given host v moment fresh rows script =
    if_ok (Gives host v) (fetched host v moment fresh) (rows, script)
    (fetched_cases host v moment fresh (IfOk (Gives host v)) (inl (local_has_no_kernel v.machine.arch)) (inl hold_has_no_kernel) tt
    (λ p image b works its offered. inr (p, record { boot = b; image = image; class = works; image_is = its; is = refl }))
    (λ offered few. answering_gives hold_script (followed [] v moment (step_of v.machine FourthBoot)) (Given host v) (inl hold_has_no_kernel))
    (λ p image number works its few next. inr (p, record { boot = new_boot number v.machine p fresh; image = image; class = works; image_is = its; is = refl })))

-- ---- the words of its kernel's line

Contains-none : (y : List ℕ) → Contains [] y → ⊥
Contains-none y h = omega (arith, h.1)

Contains-first : (x : List ℕ) (xs : List (List ℕ)) → Contains (x ∷ xs) x
Contains-first x xs = (0, omega arith, refl)

begins : (rest : List ℕ) → is_hall_word (codes "hall." ++ rest) ≡ true
unfolding is_hall_word
begins rest = refl

-- an image's arguments are not the desk's
not_own : (args : List (List ℕ)) (rest : List ℕ) → has_hall_word args ≡ false → Contains args (codes "hall." ++ rest) → ⊥
not_own [] rest none h = Contains-none (codes "hall." ++ rest) h
not_own (first ∷ args) rest none h =
    let parts = or_parts (is_hall_word first) (has_hall_word args) none in
    elim (Contains-cases first args (codes "hall." ++ rest) h) [
      | inl e ↦ both_ways (is_hall_word first) parts.0 (ap is_hall_word e ∙ begins rest)
      | inr h ↦ not_own args rest parts.1 h
    ]

-- one of the desk's words
pub data IsDeskWord : List ℕ → Purpose → Option Erase → Boot → List ℕ → Type 0 where
  is_purpose : {host : List ℕ} {p : Purpose} {e : Option Erase} {b : Boot} {word : List ℕ} → codes "hall.purpose=" ++ purpose_text p ≡ word → IsDeskWord host p e b word
  is_erase : {host : List ℕ} {p : Purpose} {e : Option Erase} {b : Boot} {word : List ℕ} → Contains (erase_argument p e) word → IsDeskWord host p e b word
  is_boot : {host : List ℕ} {p : Purpose} {e : Option Erase} {b : Boot} {word : List ℕ} → codes "hall.boot=" ++ decimal b.number ≡ word → IsDeskWord host p e b word
  is_token : {host : List ℕ} {p : Purpose} {e : Option Erase} {b : Boot} {word : List ℕ} → codes "hall.token=" ++ encode_lower b.token ≡ word → IsDeskWord host p e b word
  is_desk : {host : List ℕ} {p : Purpose} {e : Option Erase} {b : Boot} {word : List ℕ} → codes "hall.desk=http://" ++ host ≡ word → IsDeskWord host p e b word

last_words : (host : List ℕ) (p : Purpose) (e : Option Erase) (b : Boot) (word : List ℕ)
    → Contains ((codes "hall.boot=" ++ decimal b.number) ∷ (codes "hall.token=" ++ encode_lower b.token) ∷ (codes "hall.desk=http://" ++ host) ∷ []) word → IsDeskWord host p e b word
last_words host p e b word h =
    elim (Contains-cases (codes "hall.boot=" ++ decimal b.number) ((codes "hall.token=" ++ encode_lower b.token) ∷ (codes "hall.desk=http://" ++ host) ∷ []) word h) [
      | inl is ↦ is_boot is
      | inr h ↦ elim (Contains-cases (codes "hall.token=" ++ encode_lower b.token) ((codes "hall.desk=http://" ++ host) ∷ []) word h) [
        | inl is ↦ is_token is
        | inr h ↦ elim (Contains-cases (codes "hall.desk=http://" ++ host) [] word h) [
          | inl is ↦ is_desk is
          | inr h ↦ absurd (Contains-none word h)
        ]
      ]
    ]

desk_word : (host : List ℕ) (p : Purpose) (e : Option Erase) (b : Boot) (word : List ℕ) → Contains (desk_arguments host p e b) word → IsDeskWord host p e b word
desk_word host p e b word h =
    elim (Contains-cases (codes "hall.purpose=" ++ purpose_text p)
    (erase_argument p e ++ (codes "hall.boot=" ++ decimal b.number) ∷ (codes "hall.token=" ++ encode_lower b.token) ∷ (codes "hall.desk=http://" ++ host) ∷ []) word h) [
      | inl is ↦ is_purpose is
      | inr h ↦ elim (Contains-append_cases (erase_argument p e) ((codes "hall.boot=" ++ decimal b.number) ∷ (codes "hall.token=" ++ encode_lower b.token) ∷ (codes "hall.desk=http://" ++ host) ∷ []) word h) [
        | inl h ↦ is_erase h
        | inr h ↦ last_words host p e b word h
      ]
    ]

-- two words are not the same where a test of them fails
differ : (one other : List ℕ) → bytes_eq one other ≡ false → one ≡ other → ⊥
differ one other apart is = both_ways (bytes_eq one other) apart ((bytes_eq-Decides one other).1 is)

-- a word about erasing is there only in an erasing script, and names the kind
record IsEraseWord (p : Purpose) (e : Option Erase) (word : List ℕ) : Type 0 where
  kind : Erase
  erases : p ≡ purpose.Erase
  kept : e ≡ Some kind
  is : codes "hall.erase=" ++ erase_text kind ≡ word

erase_word : (p : Purpose) (e : Option Erase) (word : List ℕ) → Contains (erase_argument p e) word → IsEraseWord p e word
erase_word purpose.Erase (Some kind) word h =
    elim (Contains-cases (codes "hall.erase=" ++ erase_text kind) [] word h) [
      | inl is ↦ record { kind = kind; erases = refl; kept = refl; is = is }
      | inr h ↦ absurd (Contains-none word h)
    ]
erase_word p e word h = absurd (Contains-none word h)

-- a word `hall.purpose=` names the purpose
to_erase : (p : Purpose) → codes "hall.purpose=" ++ purpose_text p ≡ codes "hall.purpose=erase" → p ≡ purpose.Erase
unfolding purpose_text
to_erase purpose.Erase is = refl
to_erase other is = absurd (differ _ _ refl is)

to_deploy : (p : Purpose) → codes "hall.purpose=" ++ purpose_text p ≡ codes "hall.purpose=deploy" → p ≡ purpose.Deploy
unfolding purpose_text
to_deploy purpose.Deploy is = refl
to_deploy other is = absurd (differ _ _ refl is)

purpose_named : (host : List ℕ) (p : Purpose) (e : Option Erase) (b : Boot) (rest : List ℕ) → IsDeskWord host p e b (codes "hall.purpose=" ++ rest)
    → codes "hall.purpose=" ++ purpose_text p ≡ codes "hall.purpose=" ++ rest
purpose_named host p e b rest (is_purpose is) = is
purpose_named host p e b rest (is_erase h) =
    let w = erase_word p e (codes "hall.purpose=" ++ rest) h in absurd (differ (codes "hall.erase=" ++ erase_text w.kind) (codes "hall.purpose=" ++ rest) refl w.is)
purpose_named host p e b rest (is_boot is) = absurd (differ (codes "hall.boot=" ++ decimal b.number) (codes "hall.purpose=" ++ rest) refl is)
purpose_named host p e b rest (is_token is) = absurd (differ (codes "hall.token=" ++ encode_lower b.token) (codes "hall.purpose=" ++ rest) refl is)
purpose_named host p e b rest (is_desk is) = absurd (differ (codes "hall.desk=http://" ++ host) (codes "hall.purpose=" ++ rest) refl is)

-- a word `hall.erase=` names the kind that the machine keeps
to_kind : (kept kind : Erase) → codes "hall.erase=" ++ erase_text kept ≡ codes "hall.erase=" ++ erase_text kind → kept ≡ kind
unfolding erase_text
to_kind erase.Quick erase.Quick is = refl
to_kind erase.Full erase.Full is = refl
to_kind kept kind is = absurd (differ _ _ refl is)

kind_word : (host : List ℕ) (p : Purpose) (e : Option Erase) (b : Boot) (kind : Erase) → IsDeskWord host p e b (codes "hall.erase=" ++ erase_text kind) → e ≡ Some kind
kind_word host p e b kind (is_purpose is) = absurd (differ (codes "hall.purpose=" ++ purpose_text p) (codes "hall.erase=" ++ erase_text kind) refl is)
kind_word host p e b kind (is_erase h) = let w = erase_word p e (codes "hall.erase=" ++ erase_text kind) h in w.kept ∙ ap Some (to_kind w.kind kind w.is)
kind_word host p e b kind (is_boot is) = absurd (differ (codes "hall.boot=" ++ decimal b.number) (codes "hall.erase=" ++ erase_text kind) refl is)
kind_word host p e b kind (is_token is) = absurd (differ (codes "hall.token=" ++ encode_lower b.token) (codes "hall.erase=" ++ erase_text kind) refl is)
kind_word host p e b kind (is_desk is) = absurd (differ (codes "hall.desk=http://" ++ host) (codes "hall.erase=" ++ erase_text kind) refl is)

-- ---- which status has which purpose

no_work : (back : Option Status) (p : Purpose) → class_after_rescue back ≡ Work p → ⊥
no_work back p is = both_ways (is_work (class_after_rescue back)) (works_after_rescue back) (ap is_work is)

erasing_status : (status : Status) (back : Option Status) → class_in status back ≡ Work purpose.Erase → status ≡ DiskErasing
unfolding class_in
erasing_status DiskErasing back is = refl
erasing_status ExitingRescue back is = absurd (no_work back purpose.Erase is)
erasing_status other back is = cc

deploying_status : (status : Status) (back : Option Status) → class_in status back ≡ Work purpose.Deploy → status ≡ Deploying
unfolding class_in
deploying_status Deploying back is = refl
deploying_status ExitingRescue back is = absurd (no_work back purpose.Deploy is)
deploying_status other back is = cc

-- ---- what a text with one of these words is given for

own_arguments : (p : Purpose) (v : BootView) (image : BootImage) → HasNoHallWords v → image_for p v ≡ Some image → has_hall_word image.args ≡ false
own_arguments purpose.Deploy v image none is = none.image image is
own_arguments other v image none is = none.live image is

-- the words of a work script's text that begin as the desk's own do are the desk's
work_word : (host : List ℕ) (v : BootView) (p : Purpose) (script : List Command) (rest : List ℕ) → HasNoHallWords v → IsScript script → (work : IsWork host v p script)
    → HasKernelWord (codes "hall." ++ rest) (spelling script) → IsDeskWord host p v.machine.erase work.boot (codes "hall." ++ rest)
unfolding work_script
work_word host v p script rest none good work h =
    let args = work.image.args ++ desk_arguments host p v.machine.erase work.boot in
    let whole = subst IsScript work.is good in
    let has = (HasKernelWord-boot (codes "hall." ++ rest) work.image.kernel args work.image.initrd (IsArgument-hall rest) whole).0
    (subst (λ (x : List Command). HasKernelWord (codes "hall." ++ rest) (spelling x)) work.is h) in
    elim (Contains-append_cases work.image.args (desk_arguments host p v.machine.erase work.boot) (codes "hall." ++ rest) has) [
      | inl own ↦ absurd (not_own work.image.args rest (own_arguments p v work.image none work.image_is) own)
      | inr desk ↦ desk_word host p v.machine.erase work.boot (codes "hall." ++ rest) desk
    ]

-- such a word is only in a work script's text
pub working : (host : List ℕ) (v : BootView) (moment : ℕ) (fresh : List ℕ) (rows : List RowWrite) (script : List Command) (rest : List ℕ)
    → HasNoHallWords v → IsScript script → fetched host v moment fresh ≡ Ok (rows, script) → HasKernelWord (codes "hall." ++ rest) (spelling script)
    → (p : Purpose) × (work : IsWork host v p script) × IsDeskWord host p v.machine.erase work.boot (codes "hall." ++ rest)
working host v moment fresh rows script rest none good is h =
    elim (given host v moment fresh rows script is) [
      | inl no_kernel ↦ absurd (HasKernelWord-no_kernel (codes "hall." ++ rest) script (IsArgument-hall rest) good no_kernel h)
      | inr work ↦ (work.0, work.1, work_word host v work.0 script rest none good work.1 h)
    ]

pub erasing : (host : List ℕ) (v : BootView) (moment : ℕ) (fresh : List ℕ) (rows : List RowWrite) (script : List Command)
    → HasNoHallWords v → IsScript script → fetched host v moment fresh ≡ Ok (rows, script) → HasKernelWord (codes "hall.purpose=erase") (spelling script)
    → v.machine.status ≡ DiskErasing
erasing host v moment fresh rows script none good is h =
    let work = working host v moment fresh rows script (codes "purpose=erase") none good is h in
    let p_is = to_erase work.0 (purpose_named host work.0 v.machine.erase work.1.boot (codes "erase") work.2) in
    erasing_status v.machine.status v.machine.back (work.1.class ∙ ap Work p_is)

pub kind_kept : (host : List ℕ) (v : BootView) (moment : ℕ) (fresh : List ℕ) (rows : List RowWrite) (script : List Command) (kind : Erase)
    → HasNoHallWords v → IsScript script → fetched host v moment fresh ≡ Ok (rows, script) → ErasesBy kind script
    → v.machine.erase ≡ Some kind
kind_kept host v moment fresh rows script kind none good is h =
    let work = working host v moment fresh rows script (codes "erase=" ++ erase_text kind) none good is h in
    kind_word host work.0 v.machine.erase work.1.boot kind work.2

pub deploying : (host : List ℕ) (v : BootView) (moment : ℕ) (fresh : List ℕ) (rows : List RowWrite) (script : List Command)
    → HasNoHallWords v → IsScript script → fetched host v moment fresh ≡ Ok (rows, script) → HasKernelWord (codes "hall.purpose=deploy") (spelling script)
    → (v.machine.status ≡ Deploying) × IsWork host v purpose.Deploy script
deploying host v moment fresh rows script none good is h =
    let work = working host v moment fresh rows script (codes "purpose=deploy") none good is h in
    let p_is = to_deploy work.0 (purpose_named host work.0 v.machine.erase work.1.boot (codes "deploy") work.2) in (
      deploying_status v.machine.status v.machine.back (work.1.class ∙ ap Work p_is),
      subst (λ (p : Purpose). IsWork host v p script) p_is work.1,
    )

-- ---- an erasing text names the kind that the machine keeps

names_kind : (host : List ℕ) (v : BootView) (script : List Command) (kind : Erase) → IsScript script → IsWork host v purpose.Erase script → v.machine.erase ≡ Some kind → ErasesBy kind script
unfolding work_script
names_kind host v script kind good work kept =
    let args = work.image.args ++ desk_arguments host purpose.Erase v.machine.erase work.boot in
    let word = codes "hall.erase=" ++ erase_text kind in
    let there : Contains (erase_argument purpose.Erase v.machine.erase) word = subst (λ (e : Option Erase). Contains (erase_argument purpose.Erase e) word) (sym kept) (Contains-first word []) in
    let rest = (codes "hall.boot=" ++ decimal work.boot.number) ∷ (codes "hall.token=" ++ encode_lower work.boot.token) ∷ (codes "hall.desk=http://" ++ host) ∷ [] in
    let desk = Contains-append_right ((codes "hall.purpose=" ++ purpose_text purpose.Erase) ∷ []) (erase_argument purpose.Erase v.machine.erase ++ rest) word
    (Contains-append_left (erase_argument purpose.Erase v.machine.erase) rest word there) in
    let has = Contains-append_right work.image.args (desk_arguments host purpose.Erase v.machine.erase work.boot) word desk in
    subst (λ (x : List Command). HasKernelWord word (spelling x)) (sym work.is)
    ((HasKernelWord-boot word work.image.kernel args work.image.initrd (IsArgument-hall (codes "erase=" ++ erase_text kind)) (subst IsScript work.is good)).1 has)

pub erasing_names : (host : List ℕ) (v : BootView) (moment : ℕ) (fresh : List ℕ) (rows : List RowWrite) (script : List Command) (kind : Erase)
    → HasNoHallWords v → IsScript script → fetched host v moment fresh ≡ Ok (rows, script) → HasKernelWord (codes "hall.purpose=erase") (spelling script)
    → v.machine.erase ≡ Some kind → ErasesBy kind script
erasing_names host v moment fresh rows script kind none good is h kept =
    let work = working host v moment fresh rows script (codes "purpose=erase") none good is h in
    let p_is = to_erase work.0 (purpose_named host work.0 v.machine.erase work.1.boot (codes "erase") work.2) in
    names_kind host v script kind good (subst (λ (p : Purpose). IsWork host v p script) p_is work.1) kept
