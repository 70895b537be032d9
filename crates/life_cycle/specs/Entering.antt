-- Entering a status: what it makes of a machine.
use Rattle.std.specs.Prelude.{ℕ, ◌+◌, Bool, true, false, Option, Some, None, option_map, if◌then◌else◌}
use Rattle.hall_types.specs.{Number.{next_number, next_version}, declared.{status.Status.{Status, TheVariants.{Commissioning, Testing, Ready, Deploying, Deployed, Releasing, DiskErasing, FailedDiskErasing, EnteringRescue, FailedToEnterRescue, Rescue, ExitingRescue, FailedToExitRescue, Broken}}, kinds.{OrderKind.OrderKind, OrderStage.TheVariants.Waiting}, machine.Machine.Machine, number.Numbers.Numbers}}
use Rattle.life_cycle.specs.declared.{step.Step.Step, entering.Entered.Entered}

-- the maximum number of seconds in a status, nothing where there is no limit
unfoldable pub limit_of : Status → Option ℕ
limit_of Commissioning = Some 1800
limit_of Testing = Some 3600
limit_of Deploying = Some 2400
limit_of Releasing = Some 600
limit_of DiskErasing = Some 7200
limit_of EnteringRescue = Some 1200
limit_of ExitingRescue = Some 600
limit_of other = None

-- the value if it is kept, else nothing
abbrev pub kept : {X : Type 0} → Bool → Option X → Option X
kept true x = x
kept false x = None

-- a machine that is Ready or Broken has no owner and no image
unfoldable pub keeps_owner : Status → Bool
keeps_owner Ready = false
keeps_owner Broken = false
keeps_owner other = true

-- the current boot is kept only from Entering rescue to Rescue
unfoldable pub boot_after : Status → Status → Option ℕ → Option ℕ
boot_after EnteringRescue Rescue boot = boot
boot_after from status boot = None

-- the five statuses of a rescue
unfoldable pub is_rescue : Status → Bool
is_rescue EnteringRescue = true
is_rescue FailedToEnterRescue = true
is_rescue Rescue = true
is_rescue ExitingRescue = true
is_rescue FailedToExitRescue = true
is_rescue other = false

-- a rescue begins from Deployed or from Broken
unfoldable pub is_origin : Status → Bool
is_origin Deployed = true
is_origin Broken = true
is_origin other = false

-- a machine remembers the status that its rescue began from, only while it is in the statuses of the rescue
unfoldable pub back_after : Status → Status → Option Status → Option Status
back_after from status back =
    if is_rescue status then (if is_origin from then Some from else back) else None

-- how the disks are erased is kept while they are being erased, and after that failed
unfoldable pub keeps_erase : Status → Bool
keeps_erase DiskErasing = true
keeps_erase FailedDiskErasing = true
keeps_erase other = false

-- the machine in its new status: no boot is counted, and only the new order waits
abbrev pub machine_in : Machine → Status → ℕ → Option ℕ → Machine
machine_in m status moment waiting = record m {
  status = status;
  owner = kept (keeps_owner status) m.owner;
  image = kept (keeps_owner status) m.image;
  back = back_after m.status status m.back;
  erase = kept (keeps_erase status) m.erase;
  version = next_version m.version;
  deadline = option_map (λ limit. moment + limit) (limit_of status);
  boot = boot_after m.status status m.boot;
  boots = 0;
  waiting = waiting;
}

-- where no order is queued: the order that waited is withdrawn
abbrev pub entered_plain : Machine → Status → ℕ → Numbers → Entered
entered_plain m status moment numbers = record {
  machine = machine_in m status moment None;
  numbers = numbers;
  order = None;
  withdrawn = m.waiting;
}

-- where an order of this kind and number is queued: the order that waited is withdrawn
abbrev pub entered_queued : Machine → Status → ℕ → Numbers → OrderKind → ℕ → Entered
entered_queued m status moment numbers kind n = record {
  machine = machine_in m status moment (Some n);
  numbers = record numbers { order = n };
  order = Some (record { number = n; machine = m.id; kind = kind; stage = Waiting });
  withdrawn = m.waiting;
}

abbrev pub entered_by : Machine → Status → ℕ → Numbers → Option OrderKind → Option Entered
entered_by m status moment numbers None = Some (entered_plain m status moment numbers)
entered_by m status moment numbers (Some kind) =
    option_map (entered_queued m status moment numbers kind) (next_number numbers.order)

-- what becomes of a machine that takes a step, nothing if an order is to be queued and all numbers of orders
-- were given out
abbrev pub entered : Machine → Step → ℕ → Numbers → Option Entered
entered m s moment numbers = entered_by m s.status moment numbers s.order
