-- What operators' commands write, and that a command which is carried out is answered so.
use Rattle.std.{specs.{Prelude.{◌≡◌, ◌≢◌, ◌||◌, not, ℕ, Bool, true, false, List, [], ◌∷◌, Option, Some, None, Ok, Err, is_some, option_map, if◌then◌else◌}, Str.bytes_eq}, proofs.{Common.{refl, sym, ap, inl, inr, ◌∙◌}, lemmas.{Bool.{both_ways, eqb-true, or_parts}, Slice.Eq.bytes_eq-Decides}}}
use Rattle.hall_laws.specs.{Prelude.{Arch, Hall, pair, BootImage, is_image_used, operator_with_digest, none_listed, next_number, RowWrite, Role, Interface, Machine, Numbers, Operator, Refusal, blank_machine, Content, done, HallCommand, AddOperator, DisableOperator, AddPool, Grant, AddImage, DeleteImage, SetLive, AddMachine, OnMachine, MachineCommand, entered, Action, By, IfOk, step_cases, entry_rows, IsSound, some_is, row_at, IsAllowed, first_none, none_is, none_mapped, unless_none, when_none, action_of, first_of, forbidden, when, sender, command_cases, machine_cases, sender_is, about, acted, added, edited, entry_effect, live_image, machine_effect, machine_effect_if, moved_to_pool, prepared, raised, step_effect, by_mac, is_number, has_member, has_pool, image_arch, CommandView}, Decision.commanded as answered, Writes.{Writes, WritesAll, edits_machine, enters_status, is_done, machine_goes, makes_machine, nothing_first, with_receipt as and_receipt, without_receipt, writes_aside, writes_nothing}}
use Rattle.hall_types.specs.Rows.{at}
use Rattle.hall_types.specs.declared.change.RowWrite.TheVariants as write
use Rattle.hall_types.specs.declared.refusal.Refusal.TheVariants as cause
use Rattle.hall_types.specs.declared.act.Act.TheVariants as does
use Rattle.hall_events.specs.declared.command.MachineCommand.TheVariants as on
use Rattle.hall_events.specs.declared.event.Event.TheVariants as event
use Rattle.life_cycle.specs.declared.action.Action.TheVariants as act
use Rattle.desk_command.specs.{Causes.{causes, command_view, machine_view}, Command.{command_decision, with_receipt}, Effect.{Effect, disabled, effect}}

-- ---- answers

-- unless it is refused, its answer is one of a command that is carried out
abbrev pub SaysDone : Effect → Type 0
SaysDone = IfOk (λ (d : List RowWrite × Content). is_done d.1 ≡ true)

if_says : (b : Bool) (one other : Effect) → SaysDone one → SaysDone other → SaysDone (if b then one else other)
if_says true one other says also = says
if_says false one other says also = also

acted_says : (v : CommandView) (o : Operator) (m : Machine) (command : MachineCommand) (moment : ℕ) (action : Action) → SaysDone (acted v o m command moment action)
acted_says v o m command moment action =
    step_cases SaysDone m (prepared command o m) (By action) moment v.numbers (step_effect v o m command moment) (entry_effect v m) (λ step. refl) (λ stays. tt) tt (λ step e leads enters. refl)

machine_says : (v : CommandView) (o : Operator) (m : Machine) (command : MachineCommand) (moment : ℕ) → SaysDone (machine_effect v o m command moment)
machine_says v o m (on.AddInterface mac) moment = refl
machine_says v o m (on.RemoveInterface mac) moment = refl
machine_says v o m (on.SetPool pool) moment = if_says (bytes_eq m.pool pool) _ _ refl refl
machine_says v o m on.Delete moment = refl
machine_says v o m (on.Act does.Lock) moment = refl
machine_says v o m (on.Act does.Unlock) moment = refl
machine_says v o m other moment = acted_says v o m other moment _

machine_if_says : (m : Option Machine) (v : CommandView) (o : Operator) (command : MachineCommand) (moment : ℕ) → SaysDone (machine_effect_if m v o command moment)
machine_if_says None v o command moment = tt
machine_if_says (Some m) v o command moment = machine_says v o m command moment

disabled_says : (o : Option Operator) → SaysDone (disabled o)
disabled_says None = tt
disabled_says (Some o) = if_says o.enabled _ _ refl refl

live_says : (image : List ℕ) (arch : Option Arch) → SaysDone (live_image image arch)
live_says image None = tt
live_says image (Some arch) = refl

added_says : (v : CommandView) (mac : List ℕ) (arch : Arch) (pool : List ℕ) (uuid : Option (List ℕ)) (id : Option ℕ) → SaysDone (added v mac arch pool uuid id)
added_says v mac arch pool uuid None = tt
added_says v mac arch pool uuid (Some id) = refl

pub effect_says : (v : CommandView) (o : Operator) (command : HallCommand) (moment : ℕ) → SaysDone (effect v o command moment)
unfolding effect
effect_says v o (DisableOperator name) moment = disabled_says v.operator
effect_says v o (SetLive image) moment = live_says image v.image
effect_says v o (AddMachine mac arch pool uuid) moment = added_says v mac arch pool uuid (next_number v.numbers.machine)
effect_says v o (OnMachine id version command) moment = machine_if_says v.machine v o command moment
effect_says v o other moment = refl

-- ---- writes

-- the interface that is found is the machine's
has_interface : (o : Option Interface) (id : ℕ) → is_number (option_map (λ (i : Interface). i.machine) o) id ≡ true → (i : Interface) × (o ≡ Some i) × (i.machine ≡ id)
has_interface None id is = cc
has_interface (Some i) id is = (i, refl, eqb-true i.machine id is)

not_itself : (b : Bool) → b ≢ not b
not_itself true is = cc
not_itself false is = cc

module _ (h : Hall) (s : IsSound h) (bearer : Option (List ℕ)) (key : List ℕ) (moment : ℕ) (fresh : List ℕ) where
  -- what the effect of a command writes
  abbrev Does : HallCommand → Effect → Type 0
  Does command = IfOk (λ (d : List RowWrite × Content). Writes h (event.Command bearer key command) moment fresh d.0 d.1)

  module _ (o : Operator) (sent : sender h bearer ≡ Some o) (id : ℕ) (version : Option ℕ) (m : Machine) (its : m.id ≡ id) (was : at h.machines m.id ≡ Some m) where
    -- what a command on the machine writes
    abbrev On : MachineCommand → Effect → Type 0
    On command e = Does (OnMachine id version command) e

    acted_writes : (v : CommandView) (command : MachineCommand) (action : Action) → v.order ≡ row_at h.orders m.waiting → v.numbers ≡ h.last → action_of command ≡ Some action
        → forbidden o m v.is_member (action_of command) ≡ None → On command (acted v o m command moment action)
    acted_writes v command action order numbers acts may =
        step_cases (On command) m (prepared command o m) (By action) moment v.numbers (step_effect v o m command moment) (entry_effect v m) (λ step. refl) (λ stays. tt) tt
        (λ step new leads is. enters_status (record {
          machine = m;
          entering = prepared command o m;
          signal = By action;
          first = nothing_first;
          step = step;
          new = new;
          found = was;
          cause = inl (record {
            operator = o;
            bearer = bearer;
            key = key;
            version = version;
            command = command;
            action = action;
            member = v.is_member;
            event_is = ap (λ n. event.Command bearer key (OnMachine n version command)) (sym its);
            sender_is = sent;
            acts = acts;
            may = ap (forbidden o m v.is_member) (sym acts) ∙ may;
            sets = refl;
            signal_is = refl;
          });
          leads = leads;
          enters = ap (λ n. entered (prepared command o m) step moment n) (sym numbers) ∙ is;
          rows_are = ap (λ w. entry_rows m w new) order;
        }))

    pool_writes : (pool : List ℕ) → On (on.SetPool pool) (moved_to_pool m pool)
    pool_writes pool = by (bytes_eq m.pool pool) refl
      where
        by : (b : Bool) → bytes_eq m.pool pool ≡ b → On (on.SetPool pool) (if b then Ok ([], about m) else edited m (record (raised m) { pool = pool }) [])
        by true same = writes_nothing (λ e. cc) refl
        by false other = edits_machine refl (record {
          machine = m;
          after = record (raised m) { pool = pool };
          interfaces = [];
          found = was;
          same = refl;
          edits = tt;
          version = refl;
          changes = λ none is. both_ways (bytes_eq m.pool pool) other ((bytes_eq-Decides m.pool pool).1 (ap (λ (x : Machine). x.pool) (sym is)));
          rows_are = refl;
        })

    -- the machine is locked, or it is unlocked
    locking_writes : (b : Bool) (command : MachineCommand) → m.locked ≡ not b → On command (edited m (record (raised m) { locked = b }) [])
    locking_writes b command was_not = edits_machine refl (record {
      machine = m;
      after = record (raised m) { locked = b };
      interfaces = [];
      found = was;
      same = refl;
      edits = tt;
      version = refl;
      changes = λ none is. not_itself b (ap (λ (x : Machine). x.locked) is ∙ was_not);
      rows_are = refl;
    })

    machine_writes : (command : MachineCommand) → IsAllowed (machine_view h o m command) m command → forbidden o m (machine_view h o m command).is_member (action_of command) ≡ None
        → On command (machine_effect (machine_view h o m command) o m command moment)
    machine_writes (on.AddInterface mac) a may =
        let free = when_none (is_some (by_mac h mac)) cause.Taken (first_none (when (is_some (by_mac h mac)) cause.Taken) _ a.own).0 in
        edits_machine refl (record {
          machine = m;
          after = raised m;
          interfaces = write.PutInterface (record { mac = mac; machine = m.id }) ∷ [];
          found = was;
          same = refl;
          edits = (none_mapped (λ (i : Interface). i.machine) (at h.interfaces mac) free, refl);
          version = refl;
          changes = λ none is. cc;
          rows_are = refl;
        })
    machine_writes (on.RemoveInterface mac) a may =
        edits_machine refl (record {
          machine = m;
          after = raised m;
          interfaces = write.InterfaceGone mac ∷ [];
          found = was;
          same = refl;
          edits = has_interface (at h.interfaces mac) m.id (unless_none (is_number (by_mac h mac) m.id) cause.NoInterface a.found);
          version = refl;
          changes = λ none is. cc;
          rows_are = refl;
        })
    machine_writes (on.SetPool pool) a may = pool_writes pool
    machine_writes (on.Commission tests) a may = acted_writes (machine_view h o m (on.Commission tests)) (on.Commission tests) act.Commission refl refl refl may
    machine_writes on.Delete a may =
        machine_goes m.id (record { operator = o; bearer = bearer; key = key; version = version; event_is = ap (λ n. event.Command bearer key (OnMachine n version on.Delete)) (sym its); sender_is = sent }) refl
    machine_writes (on.Deploy image) a may = acted_writes (machine_view h o m (on.Deploy image)) (on.Deploy image) act.Deploy refl refl refl may
    machine_writes (on.Release None) a may = acted_writes (machine_view h o m (on.Release None)) (on.Release None) act.Release refl refl refl may
    machine_writes (on.Release (Some erase)) a may =
        acted_writes (machine_view h o m (on.Release (Some erase))) (on.Release (Some erase)) act.ReleaseErasing refl refl refl may
    machine_writes (on.Act does.Lock) a may = locking_writes true (on.Act does.Lock) a.unlocked
    machine_writes (on.Act does.Unlock) a may =
        locking_writes false (on.Act does.Unlock) (unless_none m.locked cause.WrongStatus (first_none (when (not m.locked) cause.WrongStatus) [] a.own).0)
    machine_writes (on.Act one) a may = acted_writes (machine_view h o m (on.Act one)) (on.Act one) (act.Act one) refl refl refl may

  -- ---- all commands

  module _ (o : Operator) (sent : sender h bearer ≡ Some o) where
    add_operator_writes : (name : List ℕ) (role : Role) (digest : List ℕ) → is_some (at h.operators name) ≡ false → is_some (operator_with_digest h digest) ≡ false
        → Does (AddOperator name role digest) (Ok (write.PutOperator (record { name = name; role = role; digest = digest; enabled = true }) ∷ [], done))
    add_operator_writes name role digest new unused = writes_aside refl (record {
      row = write.PutOperator (record { name = name; role = role; digest = digest; enabled = true });
      aside = λ before is. absurd (both_ways (is_some (at h.operators name)) new (ap (λ x. is_some x) is));
      keeps = λ other p is same. absurd (both_ways (bytes_eq p.digest digest) (none_listed h.operators (λ (x : Operator). bytes_eq x.digest digest) other p (none_is (operator_with_digest h digest) unused) is) ((bytes_eq-Decides p.digest digest).1 same));
      rows_are = refl;
    })

    disabled_writes : (name : List ℕ) (x : Option Operator) → at h.operators name ≡ x → Does (DisableOperator name) (disabled x)
    disabled_writes name None there = tt
    disabled_writes name (Some p) there = by p.enabled
      where
        named : at h.operators p.name ≡ Some p
        named = ap (at h.operators) (s.keyed.operators name p there) ∙ there

        by : (b : Bool) → Does (DisableOperator name) (if b then Ok (write.PutOperator (record p { enabled = false }) ∷ [], done) else Ok ([], done))
        by true = writes_aside refl (record {
          row = write.PutOperator (record p { enabled = false });
          aside = λ before is. ap (λ (x : Operator). x.digest) (let same : before ≡ p = some_is before p (sym is ∙ named) in same);
          keeps = λ other q is same. s.digests other p.name q p is named same;
          rows_are = refl;
        })
        by false = writes_nothing (λ e. cc) refl

    live_writes : (image : List ℕ) (x : Option BootImage) → at h.images image ≡ x → Does (SetLive image) (live_image image (option_map (λ (i : BootImage). i.arch) x))
    live_writes image None there = tt
    live_writes image (Some i) there =
        writes_aside refl (record { row = write.PutLive (record { arch = i.arch; image = image }); aside = tt; keeps = ap (λ x. is_some x) there; rows_are = refl })

    machine_added : (mac : List ℕ) (arch : Arch) (pool : List ℕ) (uuid : Option (List ℕ)) → at h.interfaces mac ≡ None → (v : CommandView) → v.numbers ≡ h.last → (n : Option ℕ) → next_number h.last.machine ≡ n → Does (AddMachine mac arch pool uuid) (added v mac arch pool uuid n)
    machine_added mac arch pool uuid free v numbers None next = tt
    machine_added mac arch pool uuid free v numbers (Some id) next =
        makes_machine (inr (bearer, key, mac, arch, pool, uuid, refl))
        (record {
          machine = blank_machine id arch pool uuid;
          interface = record { mac = mac; machine = id };
          new = refl;
          next = next;
          its = refl;
          free = free;
          rows_are = ap (λ (n : Numbers). write.PutMachine (blank_machine id arch pool uuid) None ∷ write.PutInterface (record { mac = mac; machine = id }) ∷ write.PutNumbers (record n { machine = id }) ∷ []) numbers;
        })

    effect_writes : (command : HallCommand) → first_of (causes (command_view h o command) o command) ≡ None → Does command (effect (command_view h o command) o command moment)
    unfolding causes effect command_view
    effect_writes (AddOperator name role digest) none =
        let taken = when_none (is_some (at h.operators name) || is_some (operator_with_digest h digest)) cause.Taken
        (first_none (when (is_some (at h.operators name) || is_some (operator_with_digest h digest)) cause.Taken) [] none).0 in
        let neither = or_parts (is_some (at h.operators name)) (is_some (operator_with_digest h digest)) taken in
        add_operator_writes name role digest neither.0 neither.1
    effect_writes (DisableOperator name) none = disabled_writes name (at h.operators name) refl
    effect_writes (AddPool pool) none =
        writes_aside refl (record {
          row = write.PutPool (record { name = pool });
          aside = tt;
          keeps = none_is (at h.pools pool) (when_none (has_pool h pool) cause.Taken (first_none (when (has_pool h pool) cause.Taken) [] none).0);
          rows_are = refl;
        })
    effect_writes (Grant pool name) none =
        let pools = first_none (when (not (has_pool h pool)) cause.NoPool) _ none in
        let operators = first_none (when (not (is_some (at h.operators name))) cause.NoOperator) _ pools.1 in
        let members = first_none (when (has_member h pool name) cause.Taken) [] operators.1 in
        writes_aside refl (record {
          row = write.PutMember (record { pool = pool; operator = name });
          aside = tt;
          keeps = record {
            new = none_is (at h.members (pair pool name)) (when_none (has_member h pool name) cause.Taken members.0);
            pool = unless_none (has_pool h pool) cause.NoPool pools.0;
            operator = unless_none (is_some (at h.operators name)) cause.NoOperator operators.0;
          };
          rows_are = refl;
        })
    effect_writes (AddImage image) none =
        writes_aside refl (record {
          row = write.PutImage image;
          aside = (bearer, key, refl);
          keeps = none_mapped (λ (i : BootImage). i.arch) (at h.images image.name) (when_none (is_some (image_arch h image.name)) cause.Taken (first_none (when (is_some (image_arch h image.name)) cause.Taken) [] none).0);
          rows_are = refl;
        })
    effect_writes (DeleteImage image) none =
        let images = first_none (when (not (is_some (image_arch h image))) cause.NoImage) _ none in
        let used = first_none (when (is_image_used h image) cause.InUse) [] images.1 in
        writes_aside refl (record { row = write.ImageGone image; aside = tt; keeps = when_none (is_image_used h image) cause.InUse used.0; rows_are = refl })
    effect_writes (SetLive image) none = live_writes image (at h.images image) refl
    effect_writes (AddMachine mac arch pool uuid) none =
        let pools = first_none (when (not (has_pool h pool)) cause.NoPool) _ none in
        let taken = first_none (when (is_some (by_mac h mac) || is_some (command_view h o (AddMachine mac arch pool uuid)).by_uuid) cause.Taken) _ pools.1 in
        let neither = or_parts (is_some (by_mac h mac)) (is_some (command_view h o (AddMachine mac arch pool uuid)).by_uuid) (when_none _ cause.Taken taken.0) in
        machine_added mac arch pool uuid (none_mapped (λ (i : Interface). i.machine) (at h.interfaces mac) neither.0) (command_view h o (AddMachine mac arch pool uuid)) refl (next_number h.last.machine) refl
    effect_writes (OnMachine id version command) none =
        machine_cases h s.keyed.machines o id version command moment (Does (OnMachine id version command)) tt
        (λ m its was a may. machine_writes o sent id version m its was command a may) none

-- what a command writes
pub command_writes : (h : Hall) → IsSound h → (bearer : Option (List ℕ)) (key : List ℕ) (command : HallCommand) (moment : ℕ) (fresh : List ℕ)
    → WritesAll h (event.Command bearer key command) moment fresh (answered (command_decision h bearer key command moment))
command_writes h s bearer key command moment fresh =
    command_cases h bearer key command moment Answers refused (λ o r sent there same. without_receipt (λ c. refl) (writes_nothing (λ e. cc) refl))
    (λ o sent enabled free none.
    new o sent enabled free (effect (command_view h o command) o command moment) (effect_writes h s bearer key moment fresh o sent command none) (effect_says (command_view h o command) o command moment))
  where
    Answers : Effect → Type 0
    Answers e = WritesAll h (event.Command bearer key command) moment fresh (answered e)

    refused : (refusal : Refusal) → Answers (Err refusal)
    refused refusal = without_receipt (λ c. refl) (writes_nothing (λ e. cc) refl)

    new : (o : Operator) → sender h bearer ≡ Some o → o.enabled ≡ true → at h.receipts (pair o.name key) ≡ None → (d : Effect) → Does h s bearer key moment fresh command d → SaysDone d → Answers (with_receipt o key command d)
    new o sent enabled free (Err refusal) did says = refused refusal
    new o sent enabled free (Ok d) did says = and_receipt d.0 did (record {
      operator = o;
      bearer = bearer;
      key = key;
      command = command;
      event_is = refl;
      sender_is = sent;
      recorded = sender_is h s.keyed.operators bearer o sent;
      enabled = enabled;
      new = free;
      says = says;
      rows_are = refl;
    })
