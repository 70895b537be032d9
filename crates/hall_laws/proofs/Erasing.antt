-- A script that erases is given after a release that erases.
use Rattle.std.{proofs.{Common.{◌≡◌, ℕ, List, [], ◌∷◌, ◌++◌, refl, sym, ap, subst, ◌∙◌}, lemmas.Option.none-some}, specs.Prelude.{Option, Some, Ok}}
use Rattle.ipxe_script.specs.declared.command.Command.{Command}
use Rattle.hall_types.specs.Rows.{at}
use Rattle.hall_events.specs.declared.command.MachineCommand.TheVariants as on
use Rattle.life_cycle.specs.Entering.{keeps_erase}
use Rattle.life_cycle.specs.declared.action.Action.TheVariants as act
use Rattle.boot_desk.specs.Fetch.{fetched}
use Rattle.hall_laws.{specs.{Prelude.{IsErasing, IsScript, spelling, Hall, new_hall, second, RowWrite, Erase, Machine, Status, DiskErasing, New, Content, MachineCommand, kept, entered-erase, owner_releases_erasing, ways_to_disk_erasing, Action, ErasesBy, HasNoHallWords, IsSound, some_is, view_of, BootView, prepared}, Step.{IsStep, IsTypedStep, Step}, Writes.{IsCommanded, IsEntering}, Laws.{ErasesRightly, IsByOwner, IsReleaseErasing}, Past.{IsEntry, Last}}, proofs.{Commanded.{by_command, by_owner, release_erasing}, Effects.{StepDoes, decided, did, missed, step_does}, Enterings.new_status, Forgetting.no_machines, Frame.{last_kept, last_new}, MachineRows.{IsSettled, MachineWas, has_entered, is_entry, machine_was, no_entry, settled_same, was_made, was_settled}, Scripts.{HasWholeRows, given_script, machine_there, new_rows, rows_step, view_words, was_given}}}

-- the machine's last entry was a release that erases, of the kind that its row has
abbrev pub Released : List Step → ℕ → Machine → Type 0
Released past id m = (entry : Last (IsEntry id) past) × (kind : Erase) × (m.erase ≡ Some kind) × IsReleaseErasing id kind entry.step

pub record KnowsReleases (past : List Step) (h : Hall) : Type 0 where
  pub whole : HasWholeRows h
  pub released : (id : ℕ) (m : Machine) → at h.machines id ≡ Some m → m.status ≡ DiskErasing → Released past id m

-- what the texts' own law says
pub record ErasingTexts : Type 0 where
  pub status : (host : List ℕ) (v : BootView) (moment : ℕ) (fresh : List ℕ) (rows : List RowWrite) (script : List Command)
      → HasNoHallWords v → IsScript script → fetched host v moment fresh ≡ Ok (rows, script) → IsErasing (spelling script) → v.machine.status ≡ DiskErasing
  pub kind : (host : List ℕ) (v : BootView) (moment : ℕ) (fresh : List ℕ) (rows : List RowWrite) (script : List Command) (kind : Erase)
      → HasNoHallWords v → IsScript script → fetched host v moment fresh ≡ Ok (rows, script) → ErasesBy kind script → v.machine.erase ≡ Some kind
  pub kept : (host : List ℕ) (v : BootView) (moment : ℕ) (fresh : List ℕ) (rows : List RowWrite) (script : List Command) (kind : Erase)
      → HasNoHallWords v → IsScript script → fetched host v moment fresh ≡ Ok (rows, script) → IsErasing (spelling script) → v.machine.erase ≡ Some kind
      → ErasesBy kind script

-- a machine that enters Disk erasing keeps its kind
kind_kept : (status : Status) → status ≡ DiskErasing → (erase : Option Erase) → kept (keeps_erase status) erase ≡ erase
unfolding keeps_erase
kind_kept status is erase = ap (λ x. kept (keeps_erase x) erase) is

isn't_new : New ≡ DiskErasing → ⊥
isn't_new apart = cc

module _ (past : List Step) (s : Step) (step : IsStep s) (sound : IsSound s.before) where
  same_machine : (id : ℕ) (k m : Machine) → at s.before.machines id ≡ Some k → at s.after.machines id ≡ Some m → IsSettled k m → Released past id k → Released (past ++ (s ∷ [])) id m
  same_machine id k m was is settled r = (last_kept (IsEntry id) past s (no_entry s id k m was is settled.status) r.0, r.1, settled.erase ∙ r.2, r.3)

  release_now : (rows : List RowWrite) (content : Content) (x : IsEntering s.before s.arrival.event s.arrival.moment rows content) (id : ℕ) (m : Machine)
      → id ≡ x.machine.id → m ≡ x.new.machine → at s.after.machines id ≡ Some m → s.answer ≡ Some content → m.status ≡ DiskErasing → Released (past ++ (s ∷ [])) id m
  release_now rows content x id m same its is answer erases = (
    last_new (IsEntry id) past s (is_entry s sound s.arrival.event s.arrival.moment rows content x id m same its is),
    kind,
    ap (λ (y : Machine). y.erase) its
        ∙ (entered-erase x.entering x.step s.arrival.moment s.before.last x.new x.enters
        ∙ (kind_kept x.step.status status x.entering.erase
        ∙ (ap (λ (y : Machine). y.erase) c.sets ∙ ap (λ (o : MachineCommand). (prepared o c.operator x.machine).erase) command))),
    release,
  )
    where
      status : x.step.status ≡ DiskErasing
      status = sym (new_status s.before s.arrival.event s.arrival.moment rows content x) ∙ (ap (λ (y : Machine). y.status) (sym its) ∙ erases)

      by : (c : IsCommanded s.before s.arrival.event x.machine x.entering x.signal) × (c.action ≡ act.ReleaseErasing)
      by = by_command s s.arrival.event s.arrival.moment rows content x act.ReleaseErasing
          (ways_to_disk_erasing x.machine x.signal x.step (sound.machines x.machine.id x.machine x.found).remembered x.leads status)

      c : IsCommanded s.before s.arrival.event x.machine x.entering x.signal
      c = by.0

      named : (kind : Erase) × (c.command ≡ on.Release (Some kind))
      named = release_erasing c.command (c.acts ∙ ap (λ (a : Action). Some a) by.1)

      kind : Erase
      kind = named.0

      command : c.command ≡ on.Release (Some kind)
      command = named.1

      release : IsReleaseErasing id kind s
      release = subst (λ (o : MachineCommand). IsByOwner id o s) command
          (by_owner s step sound s.arrival.moment rows content x id m same its is answer c act.ReleaseErasing by.1 (owner_releases_erasing c.operator x.machine c.member))

  released_after : StepDoes s → KnowsReleases past s.before → (id : ℕ) (m : Machine) → at s.after.machines id ≡ Some m → m.status ≡ DiskErasing → Released (past ++ (s ∷ [])) id m
  released_after (missed answer after) old id m is erases =
      let was : at s.before.machines id ≡ Some m = ap (λ (h : Hall). at h.machines id) (sym after) ∙ is in
      same_machine id m m was is (settled_same m m refl) (old.released id m was erases)
  released_after (did answer after writes effect) old id m is erases = by (machine_was s.before sound s.arrival.event s.arrival.moment s.arrival.fresh (decided s).content id m s.after effect is)
    where
      by : MachineWas s.before s.arrival.event s.arrival.moment (decided s).content id m → Released (past ++ (s ∷ [])) id m
      by (was_settled k was settled) = same_machine id k m was is settled (old.released id k was (sym settled.status ∙ erases))
      by (was_made event none new above) = absurd (isn't_new (ap (λ (y : Machine). y.status) (sym new) ∙ erases))
      by (has_entered rows x same its) = release_now rows (decided s).content x id m same its is answer erases

pub releases_step : (past : List Step) (s : Step) → IsTypedStep s → IsStep s → IsSound s.before → IsSound s.after → KnowsReleases past s.before → KnowsReleases (past ++ (s ∷ [])) s.after
releases_step past s brings step sound later old =
    let does = step_does s step sound in
    record { whole = rows_step s brings does old.whole; released = released_after past s step sound does old }

pub erases_rightly : ErasingTexts → (past : List Step) (s : Step) → IsTypedStep s → IsStep s → IsSound s.before → KnowsReleases past s.before → ErasesRightly past s
erases_rightly texts past s brings step sound old mac commands was erases =
    let g = was_given s mac commands step was in
    let v = view_of s.before g.machine in
    let whole = given_script s commands brings old.whole mac g in
    let words = view_words s.before g.machine old.whole in
    let status = texts.status s.arrival.site.host v s.arrival.moment s.arrival.fresh g.rows commands words whole g.is erases in
    let r = old.released g.machine.id g.machine (machine_there s.before sound mac g.machine g.asks) status in
    record {
      machine = g.machine;
      asks = g.asks;
      status = status;
      entry = r.0;
      kind = r.1;
      release = r.3;
      named = texts.kept s.arrival.site.host v s.arrival.moment s.arrival.fresh g.rows commands r.1 words whole g.is erases r.2;
      only = λ other names. some_is other r.1 (sym (texts.kind s.arrival.site.host v s.arrival.moment s.arrival.fresh g.rows commands other words whole g.is names) ∙ r.2);
    }

pub new_releases : (admin digest : List ℕ) → KnowsReleases [] (new_hall second admin digest)
new_releases admin digest = record { whole = new_rows admin digest; released = λ id m is erases. absurd (none-some m (sym (no_machines second admin digest id) ∙ is)) }
