-- A script that deploys is given after a deploy, and boots the image that this deploy named.
use Rattle.std.{proofs.{Common.{◌≡◌, ℕ, List, [], ◌∷◌, ◌++◌, refl, sym, ap, subst, ◌∙◌}, lemmas.Option.none-some}, specs.Prelude.{Option, Some, Ok}}
use Rattle.ipxe_script.specs.declared.command.Command.{Command}
use Rattle.hall_types.specs.Rows.{at}
use Rattle.hall_types.specs.declared.kinds.Purpose.TheVariants as purpose
use Rattle.hall_events.specs.declared.command.MachineCommand.TheVariants as on
use Rattle.life_cycle.specs.Entering.{keeps_owner}
use Rattle.life_cycle.specs.declared.action.Action.TheVariants as act
use Rattle.boot_desk.specs.{Fetch.fetched, Texts.work_script}
use Rattle.hall_laws.{specs.{Prelude.{IsDeploying, IsScript, spelling, Hall, new_hall, second, BootImage, RowWrite, Machine, Status, Deploying, New, Content, MachineCommand, kept, entered-image, owner_deploys, ways_to_deploying, Action, HasNoHallWords, IsWork, IsSound, some_is, some_of, row_at, view_of, BootView, prepared}, Step.{IsStep, IsTypedStep, Step}, Writes.{IsCommanded, IsEntering}, Laws.{DeploysRightly, IsByOwner, IsDeploy}, Past.{IsEntry, Last}}, proofs.{Commanded.{by_command, by_owner, deploy}, Effects.{StepDoes, decided, did, missed, step_does}, Enterings.new_status, Forgetting.no_machines, Frame.{last_kept, last_new}, Images.{ImagesMove, image_before, image_stays, images_move, same_images}, MachineRows.{IsSettled, MachineWas, has_entered, is_entry, machine_was, no_entry, settled_same, was_made, was_settled}, Scripts.{HasWholeRows, given_script, machine_there, new_rows, rows_step, view_words, was_given}}}

-- the machine's last entry was a deploy with its image, which is recorded as it was then
pub record WasDeployed (past : List Step) (h : Hall) (id : ℕ) (m : Machine) : Type 0 where
  pub entry : Last (IsEntry id) past
  pub name : List ℕ
  pub image : BootImage
  pub has : m.image ≡ Some name
  pub recorded : at h.images name ≡ Some image
  pub deploy : IsDeploy id name image entry.step

pub record KnowsDeploys (past : List Step) (h : Hall) : Type 0 where
  pub whole : HasWholeRows h
  pub deployed : (id : ℕ) (m : Machine) → at h.machines id ≡ Some m → m.status ≡ Deploying → WasDeployed past h id m

-- what the texts' own law says
abbrev pub DeployingTexts : Type 0
DeployingTexts = (host : List ℕ) (v : BootView) (moment : ℕ) (fresh : List ℕ) (rows : List RowWrite) (script : List Command)
    → HasNoHallWords v → IsScript script → fetched host v moment fresh ≡ Ok (rows, script) → IsDeploying (spelling script)
    → (v.machine.status ≡ Deploying) × IsWork host v purpose.Deploy script

-- a machine that enters Deploying keeps its image
image_kept : (status : Status) → status ≡ Deploying → (image : Option (List ℕ)) → kept (keeps_owner status) image ≡ image
unfolding keeps_owner
image_kept status is image = ap (λ x. kept (keeps_owner x) image) is

isn't_new : New ≡ Deploying → ⊥
isn't_new apart = cc

module _ (past : List Step) (s : Step) (step : IsStep s) (sound : IsSound s.before) (later : IsSound s.after) where
  same_machine : ImagesMove s.before s.arrival.event s.after → (id : ℕ) (k m : Machine) → at s.before.machines id ≡ Some k → at s.after.machines id ≡ Some m → IsSettled k m → WasDeployed past s.before id k → WasDeployed (past ++ (s ∷ [])) s.after id m
  same_machine move id k m was is settled d = record {
    entry = last_kept (IsEntry id) past s (no_entry s id k m was is settled.status) d.entry;
    name = d.name;
    image = d.image;
    has = settled.image ∙ d.has;
    recorded = image_stays s.before s.arrival.event s.after move id k d.name d.image was d.has d.recorded;
    deploy = d.deploy;
  }

  deploy_now : ImagesMove s.before s.arrival.event s.after → (rows : List RowWrite) (content : Content) (x : IsEntering s.before s.arrival.event s.arrival.moment rows content) (id : ℕ) (m : Machine)
      → id ≡ x.machine.id → m ≡ x.new.machine → at s.after.machines id ≡ Some m → s.answer ≡ Some content → m.status ≡ Deploying → WasDeployed (past ++ (s ∷ [])) s.after id m
  deploy_now move rows content x id m same its is answer deploys = record {
    entry = last_new (IsEntry id) past s (is_entry s sound s.arrival.event s.arrival.moment rows content x id m same its is);
    name = name;
    image = row.0;
    has = has;
    recorded = row.1;
    deploy = record {
      by_owner = subst (λ (o : MachineCommand). IsByOwner id o s) command
          (by_owner s step sound s.arrival.moment rows content x id m same its is answer c act.Deploy by.1 (owner_deploys c.operator x.machine c.member));
      recorded = image_before s.before s.arrival.event s.after move c.bearer c.key x.machine.id c.version c.command c.event_is name row.0 row.1;
    };
  }
    where
      status : x.step.status ≡ Deploying
      status = sym (new_status s.before s.arrival.event s.arrival.moment rows content x) ∙ (ap (λ (y : Machine). y.status) (sym its) ∙ deploys)

      by : (c : IsCommanded s.before s.arrival.event x.machine x.entering x.signal) × (c.action ≡ act.Deploy)
      by = by_command s s.arrival.event s.arrival.moment rows content x act.Deploy
          (ways_to_deploying x.machine x.signal x.step (sound.machines x.machine.id x.machine x.found).remembered x.leads status)

      c : IsCommanded s.before s.arrival.event x.machine x.entering x.signal
      c = by.0

      named : (image : List ℕ) × (c.command ≡ on.Deploy image)
      named = deploy c.command (c.acts ∙ ap (λ (a : Action). Some a) by.1)

      name : List ℕ
      name = named.0

      command : c.command ≡ on.Deploy name
      command = named.1

      has : m.image ≡ Some name
      has = ap (λ (y : Machine). y.image) its
          ∙ (entered-image x.entering x.step s.arrival.moment s.before.last x.new x.enters
          ∙ (image_kept x.step.status status x.entering.image
          ∙ (ap (λ (y : Machine). y.image) c.sets ∙ ap (λ (o : MachineCommand). (prepared o c.operator x.machine).image) command)))

      row : (image : BootImage) × (at s.after.images name ≡ Some image)
      row = some_of (at s.after.images name) (later.machine_images id m is name has)

  deployed_after : StepDoes s → KnowsDeploys past s.before → (id : ℕ) (m : Machine) → at s.after.machines id ≡ Some m → m.status ≡ Deploying → WasDeployed (past ++ (s ∷ [])) s.after id m
  deployed_after (missed answer after) old id m is deploys =
      let was : at s.before.machines id ≡ Some m = ap (λ (h : Hall). at h.machines id) (sym after) ∙ is in
      same_machine (same_images (ap (λ (h : Hall). h.images) after)) id m m was is (settled_same m m refl) (old.deployed id m was deploys)
  deployed_after (did answer after writes effect) old id m is deploys = by (machine_was s.before sound s.arrival.event s.arrival.moment s.arrival.fresh (decided s).content id m s.after effect is)
    where
      move : ImagesMove s.before s.arrival.event s.after
      move = subst (ImagesMove s.before s.arrival.event) (sym after) (images_move s.before s.arrival.event s.arrival.moment s.arrival.fresh (decided s) writes)

      by : MachineWas s.before s.arrival.event s.arrival.moment (decided s).content id m → WasDeployed (past ++ (s ∷ [])) s.after id m
      by (was_settled k was settled) = same_machine move id k m was is settled (old.deployed id k was (sym settled.status ∙ deploys))
      by (was_made event none new above) = absurd (isn't_new (ap (λ (y : Machine). y.status) (sym new) ∙ deploys))
      by (has_entered rows x same its) = deploy_now move rows (decided s).content x id m same its is answer deploys

pub deploys_step : (past : List Step) (s : Step) → IsTypedStep s → IsStep s → IsSound s.before → IsSound s.after → KnowsDeploys past s.before → KnowsDeploys (past ++ (s ∷ [])) s.after
deploys_step past s brings step sound later old =
    let does = step_does s step sound in
    record { whole = rows_step s brings does old.whole; deployed = deployed_after past s step sound later does old }

pub deploys_rightly : DeployingTexts → (past : List Step) (s : Step) → IsTypedStep s → IsStep s → IsSound s.before → KnowsDeploys past s.before → DeploysRightly past s
deploys_rightly texts past s brings step sound old mac commands was deploys =
    let g = was_given s mac commands step was in
    let v = view_of s.before g.machine in
    let whole = given_script s commands brings old.whole mac g in
    let says = texts s.arrival.site.host v s.arrival.moment s.arrival.fresh g.rows commands (view_words s.before g.machine old.whole) whole g.is deploys in
    let d = old.deployed g.machine.id g.machine (machine_there s.before sound mac g.machine g.asks) says.0 in
    let same : says.1.image ≡ d.image = some_is says.1.image d.image (sym says.1.image_is ∙ (ap (row_at s.before.images) d.has ∙ d.recorded)) in
    record {
      machine = g.machine;
      asks = g.asks;
      status = says.0;
      entry = d.entry;
      name = d.name;
      image = d.image;
      deploy = d.deploy;
      boot = says.1.boot;
      boots = says.1.is ∙ ap (work_script s.arrival.site.host purpose.Deploy g.machine.erase says.1.boot) same;
    }

pub new_deploys : (admin digest : List ℕ) → KnowsDeploys [] (new_hall second admin digest)
new_deploys admin digest = record { whole = new_rows admin digest; deployed = λ id m is deploys. absurd (none-some m (sym (no_machines second admin digest id) ∙ is)) }
