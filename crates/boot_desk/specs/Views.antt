-- The rows of a hall that one decision needs.
use Rattle.std.specs.Prelude.{ℕ, List, Option, Some, None}
use Rattle.hall_types.specs.{Image.BootImage, Kinds.arch_number, Rows.{Keys, Rows, at}, Hall.Hall, declared.{boot.Boot.Boot, image.Live.Live, machine.{Interface.Interface, Machine.Machine}, order.Order.Order}}
use Rattle.boot_desk.specs.declared.views.{BootView.BootView, ReportView.ReportView, OrderView.OrderView}

-- the row with a key, if there is a key and a row with it
abbrev pub row_at : {K X : Type 0} {keys : Keys K} → Rows keys X → Option K → Option X
row_at rows None = None
row_at rows (Some key) = at rows key

abbrev pub image_named : Hall → Option Live → Option BootImage
image_named h None = None
image_named h (Some live) = at h.images live.image

-- the live image of an architecture
abbrev pub live_image : Hall → ℕ → Option BootImage
live_image h arch = image_named h (at h.lives arch)

-- a machine with its current boot, its waiting order, the live image of its architecture and its own image
abbrev pub view_of : Hall → Machine → BootView
view_of h m = record {
  machine = m;
  boot = row_at h.boots m.boot;
  order = row_at h.orders m.waiting;
  live = live_image h (arch_number m.arch);
  image = row_at h.images m.image;
  numbers = h.last;
}

abbrev pub machine_view : Hall → Option Machine → Option BootView
machine_view h None = None
machine_view h (Some m) = Some (view_of h m)

abbrev pub interface_view : Hall → Option Interface → Option BootView
interface_view h None = None
interface_view h (Some i) = machine_view h (at h.machines i.machine)

-- the machine that an address is recorded with
abbrev pub view_at : Hall → List ℕ → Option BootView
view_at h mac = interface_view h (at h.interfaces mac)

abbrev pub report_view_with : Boot → Option BootView → Option ReportView
report_view_with b None = None
report_view_with b (Some v) = Some (record { asked = b; at = v })

abbrev pub report_view_of : Hall → Option Boot → Option ReportView
report_view_of h None = None
report_view_of h (Some b) = report_view_with b (machine_view h (at h.machines b.machine))

-- the boot with a number, and its machine
abbrev pub report_view : Hall → ℕ → Option ReportView
report_view h number = report_view_of h (at h.boots number)

abbrev pub order_view_with : Order → Option BootView → Option OrderView
order_view_with o None = None
order_view_with o (Some v) = Some (record { asked = o; at = v })

abbrev pub order_view_of : Hall → Option Order → Option OrderView
order_view_of h None = None
order_view_of h (Some o) = order_view_with o (machine_view h (at h.machines o.machine))

-- the order with a number, and its machine
abbrev pub order_view : Hall → ℕ → Option OrderView
order_view h number = order_view_of h (at h.orders number)
