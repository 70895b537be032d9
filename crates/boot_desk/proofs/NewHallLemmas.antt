-- A new hall is sound.
use Rattle.std.{specs.Prelude.{◌≡◌, ℕ, List, Some, true, is_some}, proofs.{Common.{refl, sym, ap, inl, inr, arith, ◌∙◌}, lemmas.{Bool.both_ways, Option.none-some}}}
use Rattle.hall_types.specs.{Rows.{Keys, numbers, pairs, texts, at, put, no_rows}, RowLaws.{at-no_rows, at-put-same, put_cases}, Hall.{Schema, default_pool, new_hall}, KeyedLaws.keyed-new_hall, declared.{boot.Boot.Boot, kinds.Role.TheVariants.Admin, machine.Machine.Machine, operator.Operator.Operator, order.Order.Order}, Lookup.HasRow, CountLaws.none_size}
use Rattle.boot_desk.specs.Sound.{IsSound}

-- no number has a row
nowhere : (X : Type 0) (number : ℕ) → HasRow (no_rows {X = X} {keys = numbers}) number → ⊥
nowhere X number has = both_ways (is_some (at (no_rows {X = X} {keys = numbers}) number)) (ap (λ o. is_some o) (at-no_rows {X = X} numbers number no_rows refl)) has

module _ {K X : Type 0} (keys : Keys K) where
  nothing : (key : K) (row : X) → at (no_rows {keys = keys}) key ≡ Some row → ⊥
  nothing key row is = none-some row (sym (at-no_rows keys key no_rows refl) ∙ is)

  -- the only row has its key
  sole_key : (key : K) (row : X) (other : K) (x : X) → at (put {keys = keys} key row no_rows) other ≡ Some x → other ≡ key
  sole_key key row other x is = elim (put_cases no_rows key row other x is) [ inl w ↦ w.0 | inr w ↦ absurd (nothing other x w.1) ]

pub new_hall_sound : (schema : Schema) (admin digest : List ℕ) → IsSound (new_hall schema admin digest)
new_hall_sound schema admin digest = record {
  keyed = keyed-new_hall schema admin digest;
  member_pools = λ key x is. absurd (nothing pairs key x is);
  member_operators = λ key x is. absurd (nothing pairs key x is);
  live_images = λ key x is. absurd (nothing numbers key x is);
  machine_pools = λ key x is. absurd (nothing numbers key x is);
  machine_owners = λ key x is. absurd (nothing numbers key x is);
  machine_images = λ key x is. absurd (nothing numbers key x is);
  interface_machines = λ key x is. absurd (nothing texts key x is);
  boot_machines = λ key x is. absurd (nothing numbers key x is);
  order_machines = λ key x is. absurd (nothing numbers key x is);
  receipt_operators = λ key x is. absurd (nothing pairs key x is);
  default = ap (λ o. is_some o) (at-put-same no_rows default_pool (record { name = default_pool }));
  uuids = λ id other a b uuid is_a is_b of_a of_b. absurd (nothing numbers id a is_a);
  digests = λ name other o p is_o is_p same. sole_key texts admin first name o is_o ∙ sym (sole_key texts admin first other p is_p);
  few_machines = let none = none_size {X = Machine} numbers no_rows refl in omega arith;
  some_interfaces = λ id has. absurd (nowhere Machine id has);
  few_interfaces = λ id has. absurd (nowhere Machine id has);
  machines = λ key x is. absurd (nothing numbers key x is);
  erasing = λ key x is. absurd (nothing numbers key x is);
  waiting = λ key x is waits. absurd (nothing numbers key x is);
  last_machine = λ id has. absurd (nowhere Machine id has);
  last_boot = λ number has. absurd (nowhere Boot number has);
  last_order = λ number has. absurd (nowhere Order number has);
}
  where
    first : Operator
    first = record { name = admin; role = Admin; digest = digest; enabled = true }
