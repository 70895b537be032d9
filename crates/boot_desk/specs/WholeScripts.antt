-- Each script that a machine is given is one within the limits, where it is made of what its types allow.
use Rattle.std.{specs.{Prelude.{◌≡◌, ◌≤◌, ◌+◌, ◌++◌, ◌==◌, ℕ, Bool, true, false, List, [], ◌∷◌, Option, Some, None, Ok, All, IsTrue, codes, if◌then◌else◌}, Fmt.decimal}, proofs.{Common.{refl, arith}, lemmas.{Bool.Decides.nat_tests, Option.same_Some, List.{length-append, Elements.{All-append, All-from_recursion, All-nil}}}}}
use Rattle.hex.specs.Hex.{encode_lower}
use Rattle.pxe_vendor.specs.Place.{is_host}
use Rattle.ipxe_script.specs.{Script.IsScript, Word.IsWord, declared.command.Command.Command}
use Rattle.hall_types.specs.{Image.{BootImage, IsImage}, Kinds.{erase_text, purpose_text}, Number.{max_number, next_number}, Octets.AreOctets, declared.{boot.Boot.Boot, change.RowWrite.RowWrite, kinds.{Erase.Erase, Purpose.Purpose}}}
use Rattle.hall_types.specs.declared.kinds.Purpose.TheVariants as purpose
use Rattle.life_cycle.specs.{Table.step_of, declared.signal.Signal.TheVariants.FourthBoot}
use Rattle.boot_desk.specs.{DecisionLaws.{IfOk, answering_gives, fetched_cases, if_ok}, declared.views.BootView.BootView, Fetch.{fetched, image_for, is_offered, new_boot, offered_boot}, Following.followed, TextLaws.{boot_is_script, boot_word, desk_word, erase_word, few_erase_arguments, hold_is_script, local_is_script, purpose_word, token_word}, Texts.{desk_arguments, erase_argument, hold_script, work_script}}

-- a boot: a number, and a token of 16 octets
pub record IsBoot (b : Boot) : Type 0 where
  pub number : b.number ≤ max_number
  pub token : AreOctets 16 b.token

-- what a machine's script is made of
pub record IsWholeView (v : BootView) : Type 0 where
  pub live : (i : BootImage) → v.live ≡ Some i → IsImage i
  pub image : (i : BootImage) → v.image ≡ Some i → IsImage i
  pub boot : (b : Boot) → v.boot ≡ Some b → IsBoot b
  pub last : v.numbers.boot ≤ max_number

erase_words : (p : Purpose) (e : Option Erase) → All IsWord (erase_argument p e)
erase_words purpose.Erase (Some e) = All-from_recursion IsWord ((codes "hall.erase=" ++ erase_text e) ∷ []) (erase_word e, tt)
erase_words other e = All-nil IsWord

module _ (host : List ℕ) (is : IsTrue (is_host host)) where
  pub work_is_script : (p : Purpose) (e : Option Erase) (b : Boot) (i : BootImage) → IsBoot b → IsImage i → IsScript (work_script host p e b i)
  unfolding work_script
  work_is_script p e b i boot image =
      let own = desk_arguments host p e b in
      let last : List (List ℕ) = (codes "hall.boot=" ++ decimal b.number) ∷ (codes "hall.token=" ++ encode_lower b.token) ∷ (codes "hall.desk=http://" ++ host) ∷ [] in
      let last_words = All-from_recursion IsWord last (boot_word b.number (omega (arith, boot.number)), (token_word b.token boot.token, (desk_word host is, tt))) in
      let words : All IsWord own =
      All-append IsWord ((codes "hall.purpose=" ++ purpose_text p) ∷ []) (erase_argument p e ++ last) (All-from_recursion IsWord ((codes "hall.purpose=" ++ purpose_text p) ∷ []) (purpose_word p, tt))
      (All-append IsWord (erase_argument p e) last (erase_words p e) last_words) in
      boot_is_script i.kernel (i.args ++ own) i.initrd image.kernel (All-append IsWord i.args own image.words words) image.initrd
      (omega (arith, length-append i.args own, length-append (erase_argument p e) last, few_erase_arguments p e, image.few))

-- a number that is issued is in the range
pub number_in_range : (last number : ℕ) → last ≤ max_number → next_number last ≡ Some number → number ≤ max_number
number_in_range last number low next = by (last == max_number) refl next
  where
    in_range : (last number : ℕ) → (last == max_number) ≡ false → last ≤ max_number → last + 1 ≡ number → number ≤ max_number
    in_range last number at low is = grind (arith, nat_tests)

    by : (top : Bool) → (last == max_number) ≡ top → ◌≡◌ {A = Option ℕ} (if top then None else Some (last + 1)) (Some number) → number ≤ max_number
    by true at is = cc
    by false at is = in_range last number at low (same_Some (last + 1) number is)

module _ (host : List ℕ) (host_is : IsTrue (is_host host)) (v : BootView) (moment : ℕ) (fresh : List ℕ) (fresh_are : AreOctets 16 fresh) (whole : IsWholeView v) where
  offered_is : (b : Option Boot) (o : Boot) → offered_boot b ≡ Some o → ((x : Boot) → b ≡ Some x → IsBoot x) → IsBoot o
  offered_is None o is all = cc
  offered_is (Some b) o is all = by (is_offered b.stage) is
    where
      by : (offered : Bool) → ◌≡◌ {A = Option Boot} (if offered then Some b else None) (Some o) → IsBoot o
      by true e = all o e
      by false e = cc

  image_is : (p : Purpose) (i : BootImage) → image_for p v ≡ Some i → IsImage i
  image_is purpose.Deploy i is = whole.image i is
  image_is other i is = whole.live i is

  -- what a machine is given is a script
  pub fetched_is_script : (rows : List RowWrite) (script : List Command) → fetched host v moment fresh ≡ Ok (rows, script) → IsScript script
  fetched_is_script rows script =
      if_ok (λ (d : List RowWrite × List Command). IsScript d.1) (fetched host v moment fresh) (rows, script)
      (fetched_cases host v moment fresh (IfOk (λ (d : List RowWrite × List Command). IsScript d.1)) (local_is_script v.machine.arch) hold_is_script tt
      (λ p image b works its offered. work_is_script host host_is p v.machine.erase b image (offered_is v.boot b offered whole.boot) (image_is p image its))
      (λ offered few. answering_gives hold_script (followed [] v moment (step_of v.machine FourthBoot)) IsScript hold_is_script)
      (λ p image number works its few next.
      work_is_script host host_is p v.machine.erase (new_boot number v.machine p fresh) image
      (record { number = number_in_range v.numbers.boot number whole.last next; token = fresh_are }) (image_is p image its)))
