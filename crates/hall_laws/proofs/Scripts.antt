-- A script is given to the machine at the address that asks, from rows of their types.
use Rattle.std.{proofs.{Common.{◌≡◌, ◌≤◌, ℕ, List, [], ◌∷◌, ◌++◌, refl, sym, ap, subst, ◌∙◌, inl, inr, arith}, lemmas.Option.none-some}, specs.Prelude.{Option, Some, None, Ok, Err}}
use Rattle.ipxe_script.specs.declared.command.Command.{Command}
use Rattle.hall_types.specs.{Kinds.arch_number, Rows.{at, numbers, texts}}
use Rattle.hall_events.specs.declared.event.Event.TheVariants as event
use Rattle.boot_desk.specs.{Fetch.fetched, Texts.local_script, Views.machine_view}
use Rattle.hall_laws.{specs.{Prelude.{Site, IsScript, Hall, applied, new_hall, second, BootImage, IsImage, max_number, at-no_rows, gone_found, put_cases, Boot, RowWrite, Live, Interface, Machine, Numbers, Deployed, Content, script, Event, Fetched, HasNoHallWords, IsSound, image_named, interface_view, row_at, view_of, BootView, IsBoot, IsWholeView, fetched_is_script, number_in_range}, Decision.{Decided, decision_of, given, given_if}, Step.{IsStep, IsTypedStep, Step}, Laws.{BootsLocally, GivesScripts, IsMachineAt}, Past.WasAnswered}, proofs.{AnswerLemmas.came_so, BootRows.{BootWas, boot_was, issued_now, reported_now, same_boot}, Effects.{Effect, StepDoes, decided, did, edits, enters, goes, idles, issues, leaves, makes, missed, notes, step_does}, Enterings.last_boot_same, Images.{image_goes, images_move, ImagesMove, new_image, same_images}}}

-- the machine that is given a script
pub record IsGiven (site : Site) (h : Hall) (mac : List ℕ) (moment : ℕ) (fresh : List ℕ) (commands : List Command) : Type 0 where
  pub machine : Machine
  pub asks : IsMachineAt h mac machine
  pub rows : List RowWrite
  pub is : fetched site.host (view_of h machine) moment fresh ≡ Ok (rows, commands)

pub same_script : (a b : List Command) → script a ≡ script b → a ≡ b
same_script a b e = cc

ok_same : (rows : List RowWrite) (a b : List Command) → a ≡ b → ◌≡◌ {A = Fetched} (Ok (rows, a)) (Ok (rows, b))
ok_same rows a b e = cc

module _ (site : Site) (h : Hall) (mac : List ℕ) (moment : ℕ) (fresh : List ℕ) (commands : List Command) where
  by_answer : (m : Machine) → IsMachineAt h mac m → (answer : Fetched) → fetched site.host (view_of h m) moment fresh ≡ answer → (given answer).content ≡ script commands → IsGiven site h mac moment fresh commands
  by_answer m asks (Ok d) is says = record { machine = m; asks = asks; rows = d.0; is = is ∙ ok_same d.0 d.1 commands (same_script d.1 commands says) }
  by_answer m asks (Err refusal) is says = cc

  by_machine : (i : Interface) → at h.interfaces mac ≡ Some i → (x : Option Machine) → at h.machines i.machine ≡ x → (given_if site.host (machine_view h x) moment fresh).content ≡ script commands → IsGiven site h mac moment fresh commands
  by_machine i there None found says = cc
  by_machine i there (Some m) found says = by_answer m (record { interface = i; recorded = there; found = found }) (fetched site.host (view_of h m) moment fresh) refl says

  by_interface : (x : Option Interface) → at h.interfaces mac ≡ x → (given_if site.host (interface_view h x) moment fresh).content ≡ script commands → IsGiven site h mac moment fresh commands
  by_interface None there says = cc
  by_interface (Some i) there says = by_machine i there (at h.machines i.machine) refl says

  pub given_to : (decision_of site h (event.Script mac) moment fresh).content ≡ script commands → IsGiven site h mac moment fresh commands
  unfolding decision_of
  given_to says = by_interface (at h.interfaces mac) refl says

-- at a step that was answered so
pub was_given : (s : Step) (mac : List ℕ) (commands : List Command) → IsStep s → WasAnswered s (event.Script mac) (script commands)
    → IsGiven s.arrival.site s.before mac s.arrival.moment s.arrival.fresh commands
was_given s mac commands is was = given_to s.arrival.site s.before mac s.arrival.moment s.arrival.fresh commands (came_so s (event.Script mac) (script commands) is was).content_is

-- the machine stands under its number
pub machine_there : (h : Hall) → IsSound h → (mac : List ℕ) (m : Machine) → IsMachineAt h mac m → at h.machines m.id ≡ Some m
machine_there h s mac m asks = ap (at h.machines) (s.keyed.machines asks.interface.machine m asks.found) ∙ asks.found

-- ---- what is recorded

-- what is recorded is of its type
pub record HasWholeRows (h : Hall) : Type 0 where
  pub images : (name : List ℕ) (i : BootImage) → at h.images name ≡ Some i → IsImage i
  pub boots : (number : ℕ) (b : Boot) → at h.boots number ≡ Some b → IsBoot b
  pub last : h.last.boot ≤ max_number

last_after : (h : Hall) (e : Event) (moment : ℕ) (fresh : List ℕ) (content : Content) (g : Hall) → Effect h e moment fresh content g → h.last.boot ≤ max_number → g.last.boot ≤ max_number
last_after h e moment fresh content g effect low = by effect
  where
    as_last : (last : Numbers) → g.last ≡ last → last.boot ≤ max_number → g.last.boot ≤ max_number
    as_last last is low = omega (arith, low, ap (λ (n : Numbers). n.boot) is)

    by : Effect h e moment fresh content g → g.last.boot ≤ max_number
    by (leaves quiet has) = as_last _ has.last low
    by (makes by_event m new next has) = as_last _ has.last low
    by (issues rows x has) = as_last _ has.last (number_in_range h.last.boot x.number low x.next)
    by (enters rows x has) = let same = last_boot_same h e moment rows content x in as_last _ has.last (omega (arith, low, same))
    by (notes rows x has) = as_last _ has.last low
    by (idles rows x has) = as_last _ has.last low
    by (edits command rows x has) = as_last _ has.last low
    by (goes command id deletes has) = as_last _ has.last low

pub rows_step : (s : Step) → IsTypedStep s → StepDoes s → HasWholeRows s.before → HasWholeRows s.after
rows_step s brings (missed answer after) old = subst HasWholeRows (sym after) old
rows_step s brings (did answer after writes effect) old = record {
  images = λ name i is. by name i (images_move s.before s.arrival.event s.arrival.moment s.arrival.fresh _ writes) (ap (λ (h : Hall). at h.images name) (sym after) ∙ is);
  boots = λ number b is. by_boot number b (boot_was s.before s.arrival.event s.arrival.moment s.arrival.fresh (decided s).content s.after effect number b is);
  last = last_after s.before s.arrival.event s.arrival.moment s.arrival.fresh (decided s).content s.after effect old.last;
}
  where
    by : {g : Hall} (name : List ℕ) (i : BootImage) → ImagesMove s.before s.arrival.event g → at g.images name ≡ Some i → IsImage i
    by name i (same_images same) is = old.images name i (ap (λ x. at x name) (sym same) ∙ is)
    by name i (new_image bearer key new event_is free same) is = elim (put_cases s.before.images new.name new name i (ap (λ x. at x name) (sym same) ∙ is)) [
      | inl w ↦ subst IsImage (sym w.1) (brings.image bearer key new event_is)
      | inr w ↦ old.images name i w.1
    ]
    by name i (image_goes other used same) is = old.images name i (gone_found s.before.images other name i (ap (λ x. at x name) (sym same) ∙ is)).1

    by_boot : (number : ℕ) (b : Boot) → BootWas s.before s.arrival.event s.arrival.fresh (decided s).content s.after number b → IsBoot b
    by_boot number b (same_boot was) = old.boots number b was
    by_boot number b (issued_now rows x at_number its machines) =
        subst IsBoot (sym its) (record { number = number_in_range s.before.last.boot x.number old.last x.next; token = brings.octets })
    by_boot number b (reported_now m k progress cause was its) =
        let whole = old.boots number k was in subst IsBoot (sym its) (record { number = whole.number; token = whole.token })

pub whole_view : (h : Hall) (m : Machine) → HasWholeRows h → IsWholeView (view_of h m)
whole_view h m have = record {
  live = λ i is. by_live (at h.lives (arch_number m.arch)) i is;
  image = λ i is. by_image m.image i is;
  boot = λ b is. by_boot m.boot b is;
  last = have.last;
}
  where
    by_live : (l : Option Live) (i : BootImage) → image_named h l ≡ Some i → IsImage i
    by_live None i is = cc
    by_live (Some l) i is = have.images l.image i is

    by_image : (name : Option (List ℕ)) (i : BootImage) → row_at h.images name ≡ Some i → IsImage i
    by_image None i is = cc
    by_image (Some name) i is = have.images name i is

    by_boot : (number : Option ℕ) (b : Boot) → row_at h.boots number ≡ Some b → IsBoot b
    by_boot None b is = cc
    by_boot (Some number) b is = have.boots number b is

pub view_words : (h : Hall) (m : Machine) → HasWholeRows h → HasNoHallWords (view_of h m)
view_words h m have = let v = whole_view h m have in record { live = λ i is. (v.live i is).free; image = λ i is. (v.image i is).free }

-- what is given is a script
pub given_script : (s : Step) (commands : List Command) → IsTypedStep s → HasWholeRows s.before → (mac : List ℕ)
    → (g : IsGiven s.arrival.site s.before mac s.arrival.moment s.arrival.fresh commands) → IsScript commands
given_script s commands brings have mac g =
    fetched_is_script s.arrival.site.host brings.host (view_of s.before g.machine) s.arrival.moment s.arrival.fresh brings.octets (whole_view s.before g.machine have) g.rows commands g.is

-- a new hall has no rows that aren't
pub new_rows : (admin digest : List ℕ) → HasWholeRows (new_hall second admin digest)
new_rows admin digest = record {
  images = λ name i is. absurd (none-some i (sym (at-no_rows texts name _ refl) ∙ is));
  boots = λ number b is. absurd (none-some b (sym (at-no_rows numbers number _ refl) ∙ is));
  last = omega arith;
}

-- ---- every text is a script

abbrev pub KnowsRows : List Step → Hall → Type 0
KnowsRows past h = HasWholeRows h

pub knows_step : (past : List Step) (s : Step) → IsTypedStep s → IsStep s → IsSound s.before → IsSound s.after → KnowsRows past s.before → KnowsRows (past ++ (s ∷ [])) s.after
knows_step past s brings step sound later old = rows_step s brings (step_does s step sound) old

pub gives_scripts : (past : List Step) (s : Step) → IsTypedStep s → IsStep s → IsSound s.before → KnowsRows past s.before → GivesScripts past s
gives_scripts past s brings step sound old mac commands was = given_script s commands brings old mac (was_given s mac commands step was)

-- ---- a Deployed machine is told to boot its own disk

-- what a script request makes of the machine at its address
pub asked_decision : (site : Site) (h : Hall) (mac : List ℕ) (m : Machine) (moment : ℕ) (fresh : List ℕ) → IsMachineAt h mac m → decision_of site h (event.Script mac) moment fresh ≡ given (fetched site.host (view_of h m) moment fresh)
unfolding decision_of
asked_decision site h mac m moment fresh asks =
    ap (λ v. given_if site.host v moment fresh) (ap (interface_view h) asks.recorded ∙ ap (machine_view h) asks.found)

-- what the decisions' own law says of Deployed machines
abbrev pub DeployedBoots : Type 0
DeployedBoots = (host : List ℕ) (v : BootView) (moment : ℕ) (fresh : List ℕ) → v.machine.status ≡ Deployed → fetched host v moment fresh ≡ Ok ([], local_script v.machine.arch)

pub boots_locally : DeployedBoots → (past : List Step) (s : Step) → IsStep s → BootsLocally past s
boots_locally law past s step mac m content was asks deployed =
    let came = came_so s (event.Script mac) content step was in
    let is : decision_of s.arrival.site s.before (event.Script mac) s.arrival.moment s.arrival.fresh ≡ given (Ok ([], local_script m.arch)) =
    asked_decision s.arrival.site s.before mac m s.arrival.moment s.arrival.fresh asks ∙ ap given (law s.arrival.site.host (view_of s.before m) s.arrival.moment s.arrival.fresh deployed) in
    (sym came.content_is ∙ ap (λ (d : Decided). d.content) is, came.after ∙ ap (λ (d : Decided). applied d.rows s.before) is)
