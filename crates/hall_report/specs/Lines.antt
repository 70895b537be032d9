-- The texts of reports, line by line.
use Rattle.std.specs.{Prelude.{◌≡◌, ℕ, Bool, true, false, List, [], ◌∷◌, ◌++◌, Option, Some, None, option_map, codes, sum_by}, Fmt.decimal, List.{flat_map, join_by}}
use Rattle.hall_report.specs.{Prelude.{hyphenated_text, lower, mac_text, arch_text, Hall, erase_text, order_kind_text, interfaces_of, waiting, at, status_text, Interface, Machine, Order, AreCounts, Count}, Columns.{in_left, in_right, space}}

-- the octet that ends a line
abbrev pub line_feed : ℕ
line_feed = 10

-- ---- the queue of power orders

-- an order's number and its machine's, each right in 16, and what it is to do
abbrev pub order_line : Order → List ℕ
order_line o = in_right 16 (decimal o.number) ++ (space ∷ []) ++ in_right 16 (decimal o.machine) ++ (space ∷ []) ++ order_kind_text o.kind ++ (line_feed ∷ [])

-- the orders that wait, by number
abbrev pub order_text : Hall → List ℕ
order_text h = flat_map order_line (waiting h)

-- ---- a machine

-- a field's name and its text, one space apart, on a line
abbrev pub field_line : List ℕ → List ℕ → List ℕ
field_line name text = name ++ (space ∷ []) ++ text ++ (line_feed ∷ [])

-- `-` stands for what is absent
abbrev pub or_dash : Option (List ℕ) → List ℕ
or_dash None = codes "-"
or_dash (Some text) = text

-- the addresses of interfaces, one space apart
abbrev pub macs_text : List Interface → List ℕ
macs_text own = join_by (λ i. mac_text i.mac) (space ∷ []) own

abbrev pub uuid_text : List ℕ → List ℕ
uuid_text uuid = hyphenated_text lower uuid

abbrev pub yes_no : Bool → List ℕ
yes_no true = codes "yes"
yes_no false = codes "no"

-- the addresses of a machine, if it has interfaces
abbrev pub macs_if : List Interface → Option (List ℕ)
macs_if [] = None
macs_if (first ∷ others) = Some (macs_text (first ∷ others))

-- what a machine is and where it stands
abbrev pub state_lines : Machine → List ℕ
state_lines m =
    field_line (codes "machine") (decimal m.id)
    ++ field_line (codes "status") (status_text m.status)
    ++ field_line (codes "version") (decimal m.version)
    ++ field_line (codes "pool") m.pool

abbrev pub hardware_lines : Machine → List ℕ
hardware_lines m = field_line (codes "arch") (arch_text m.arch) ++ field_line (codes "uuid") (or_dash (option_map uuid_text m.uuid))

-- who has it, and what it runs
abbrev pub holder_lines : Machine → List ℕ
holder_lines m =
    field_line (codes "owner") (or_dash m.owner)
    ++ field_line (codes "image") (or_dash m.image)
    ++ field_line (codes "erase") (or_dash (option_map erase_text m.erase))
    ++ field_line (codes "locked") (yes_no m.locked)
    ++ field_line (codes "deadline") (or_dash (option_map decimal m.deadline))

-- the lines of a machine with its interfaces
abbrev pub machine_lines : Machine → List Interface → List ℕ
machine_lines m own = state_lines m ++ hardware_lines m ++ holder_lines m ++ field_line (codes "interfaces") (or_dash (macs_if own))

-- the lines of the machine with a number, if there is one
abbrev pub machine_text : Hall → ℕ → Option (List ℕ)
machine_text h id = option_map (λ m. machine_lines m (interfaces_of h id)) (at h.machines id)

-- ---- how many machines there are

-- a pool, a status and a number, in columns of 32, 27 and 6
abbrev pub table_line : List ℕ → List ℕ → List ℕ → List ℕ
table_line pool status count = in_left 32 pool ++ (space ∷ []) ++ in_left 27 status ++ (space ∷ []) ++ in_right 6 count ++ (line_feed ∷ [])

abbrev pub count_line : Count → List ℕ
count_line c = table_line c.pool (status_text c.status) (decimal c.machines)

abbrev pub total_line : ℕ → List ℕ
total_line total = in_left 60 (codes "total") ++ (space ∷ []) ++ in_right 6 (decimal total) ++ (line_feed ∷ [])

-- a header, a line for each count, and the sum
abbrev pub counts_text : List Count → List ℕ
counts_text counts =
    table_line (codes "pool") (codes "status") (codes "count") ++ flat_map count_line counts ++ total_line (sum_by (λ c. c.machines) counts)

-- the text of how many machines each pool of a hall has in each status
pub record IsHallText (h : Hall) (text : List ℕ) : Type 0 where
  pub counts : List Count
  pub are_counts : AreCounts h counts
  pub text_is : text ≡ counts_text counts
