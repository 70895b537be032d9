-- What comes on a worked day is of its type, and its scripts of work are scripts.
use Rattle.std.{proofs.{Common.{◌≡◌, ◌<◌, ◌≤◌, ◌++◌, ◌∙◌, ℕ, zero, suc, Bool, false, true, List, [], ◌∷◌, Option, slice_index, refl, sym, ap, subst, arith}, lemmas.{Bool.or_parts, List.Elements.All-from_recursion}}, specs.{Prelude.{codes, map}, List.{AllByRecursion, list_any}}}
use Rattle.pxe_vendor.specs.Place.{is_host}
use Rattle.ipxe_script.specs.Word.{is_first_octet, is_uri, is_word, is_word_octet}
use Rattle.hall_types.specs.Kinds.{purpose_text}
use Rattle.hall_events.specs.declared.event.Event.TheVariants as event
use Rattle.boot_desk.specs.Texts.{work_script}
use Rattle.hall_laws.specs.{Prelude.{HasKernelWord, HasKernelWord-boot, IsArgument-hall, IsScript, spelling, IsWord, BootImage, IsImage, max_number, AreOctets, Erase, Purpose, Stage, BringsImage, AddImage, Event, desk_arguments, work_is_script}, Laws.AreTyped, Step.{Arrival, IsTyped, Step}, Worked.{boot, came, host, live, site, token}}

all_octets : (its : List ℕ) → AllByRecursion (λ octet. octet < 256) its → (i : ℕ) → slice_index its i < 256
all_octets [] are i = omega arith
all_octets (octet ∷ its) are zero = are.0
all_octets (octet ∷ its) are (suc i) = all_octets its are.1 i

token_is : AreOctets 16 token
token_is = (refl, all_octets token all_small)
  where
    small : 9 < 256
    small = omega arith

    all_small : AllByRecursion (λ octet. octet < 256) token
    all_small = (small, (small, (small, (small, (small, (small, (small, (small, (small, (small, (small, (small, (small, (small, (small, (small, tt))))))))))))))))

pub typed : (e : Event) → BringsImage e → IsTyped site e token
unfolding is_host
typed e image = record { host = refl; octets = token_is; image = image }

live_is : IsImage live
unfolding is_word is_first_octet is_word_octet is_uri
live_is = record { kernel = refl; initrd = refl; words = All-from_recursion IsWord [] tt; few = omega arith; free = refl }

pub the_image : (bearer : Option (List ℕ)) (key : List ℕ) → BringsImage (event.Command bearer key (AddImage live))
the_image bearer key its its_key image is = subst IsImage (same live image is) live_is
  where
    same : (a b : BootImage) → event.Command bearer key (AddImage a) ≡ event.Command its its_key (AddImage b) → a ≡ b
    same a b e = cc

-- ---- what comes on the day, and brings no image

abbrev pub brings : Event → Bool
brings (event.Command bearer key (AddImage image)) = true
brings other = false

pub plain_typed : (steps : List Step) → map (λ s. s.arrival) steps ≡ map (λ s. came s.arrival.event) steps → list_any (λ s. brings s.arrival.event) steps ≡ false
    → AreTyped steps
plain_typed [] are none = tt
plain_typed (s ∷ steps) are none =
    let first : s.arrival ≡ came s.arrival.event = cc in
    let rest : map (λ s. s.arrival) steps ≡ map (λ s. came s.arrival.event) steps = cc in
    let parts = or_parts (brings s.arrival.event) (list_any (λ s. brings s.arrival.event) steps) none in (
      subst (λ (a : Arrival). IsTyped a.site a.event a.fresh) (sym first)
          (typed s.arrival.event (λ bearer key image is. let e : false ≡ true = sym parts.0 ∙ ap brings is in cc)),
      plain_typed steps rest parts.1,
    )

-- ---- scripts of work

module _ (p : Purpose) (e : Option Erase) (number : ℕ) (stage : Stage) (low : number ≤ max_number) where
  pub worked_script : IsScript (work_script host p e (boot number p stage) live)
  unfolding is_host
  worked_script = work_is_script host refl p e (boot number p stage) live (record { number = low; token = token_is }) live_is

  -- the kernel is told its purpose
  pub worked_purpose : HasKernelWord (codes "hall.purpose=" ++ purpose_text p) (spelling (work_script host p e (boot number p stage) live))
  unfolding work_script
  worked_purpose =
      (HasKernelWord-boot (codes "hall.purpose=" ++ purpose_text p) live.kernel (desk_arguments host p e (boot number p stage)) live.initrd
      (IsArgument-hall (codes "purpose=" ++ purpose_text p)) worked_script).1 (0, omega arith, refl)
