-- What worked days are made of: one administrator, one image, one machine at one place.
use Rattle.std.specs.Prelude.{ℕ, List, [], ◌∷◌, true, Some, codes}
use Rattle.hall_events.specs.declared.event.Event.TheVariants.{Command}
use Rattle.hall_laws.specs.{Prelude.{Site, Uefi64, Hall, new_hall, second, BootImage, Boot, RowWrite, PutNumbers, PutReceipt, Cycle, OrderStage, Purpose, Admin, Stage, Operator, Order, Content, HallCommand, Event, receipt_of}, Step.Arrival}

-- ---- who and what there is

abbrev pub host : List ℕ
host = codes "hall.example"

abbrev pub site : Site
site = record { server = 192 ∷ 0 ∷ 2 ∷ 1 ∷ []; next = 192 ∷ 0 ∷ 2 ∷ 2 ∷ []; host = host }

abbrev pub ada : Operator
ada = record { name = codes "ada"; role = Admin; digest = 1 ∷ []; enabled = true }

abbrev pub start : Hall
start = new_hall second ada.name ada.digest

abbrev pub live : BootImage
live = record { name = codes "live"; arch = Uefi64; kernel = codes "http://files.example/k"; initrd = codes "http://files.example/i"; args = [] }

abbrev pub mac : List ℕ
mac = 82 ∷ 84 ∷ 0 ∷ 18 ∷ 52 ∷ 86 ∷ []

abbrev pub token : List ℕ
token = 9 ∷ 9 ∷ 9 ∷ 9 ∷ 9 ∷ 9 ∷ 9 ∷ 9 ∷ 9 ∷ 9 ∷ 9 ∷ 9 ∷ 9 ∷ 9 ∷ 9 ∷ 9 ∷ []

-- a boot of the machine, and an order to turn it off and on
abbrev pub boot : ℕ → Purpose → Stage → Boot
boot number its at = record { number = number; machine = 1; purpose = its; token = token; stage = at }

abbrev pub order : ℕ → OrderStage → Order
order number its = record { number = number; machine = 1; kind = Cycle; stage = its }

-- ---- what comes, and what it writes

abbrev pub came : Event → Arrival
came e = record { site = site; event = e; moment = 1000; fresh = token }

-- a command of ada's
abbrev pub command : ℕ → HallCommand → Arrival
command key c = came (Command (Some ada.digest) (key ∷ []) c)

abbrev pub receipt : ℕ → HallCommand → Content → RowWrite
receipt key c content = PutReceipt (receipt_of ada (key ∷ []) c content)

-- the last numbers of machines, boots and orders
abbrev pub lasts : ℕ → ℕ → ℕ → RowWrite
lasts machine boot order = PutNumbers (record { machine = machine; boot = boot; order = order })
