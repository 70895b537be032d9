-- A sound hall stays sound with a machine that an operator adds.
use Rattle.std.{specs.Prelude.{◌≡◌, ◌||◌, ℕ, not, nat_le, List, [], ◌∷◌, Option, Some, None, is_some, false}, proofs.{Common.{refl, sym, subst}, lemmas.Bool.{leb-false, or_parts}}}
use Rattle.hall_types.specs.declared.refusal.Refusal.TheVariants as cause
use Rattle.desk_command.{specs.{Prelude.{Arch, next_number, at, size, Hall, applied, machine_with_uuid, PutInterface, PutMachine, PutNumbers, MAX_MACHINES, blank_machine, machine_with, blank_is_new, new_machine_sound, IsSound}, Causes.{by_mac, by_uuid, first_of, has_pool, when}, Effect.added, declared.view.CommandView.CommandView, AllowedLaws.{first_none, none_mapped, unless_none, when_none}}, proofs.ActionLemmas.Keeps}

no_machine : (h : Hall) (uuid : Option (List ℕ)) → is_some (by_uuid h uuid) ≡ false → machine_with h uuid ≡ None
no_machine h None free = refl
no_machine h (Some uuid) free = none_mapped (λ m. m.id) (machine_with_uuid h uuid) free

-- a machine that an operator adds leaves the hall sound
pub add_machine_sound : (h : Hall) (mac : List ℕ) (arch : Arch) (pool : List ℕ) (uuid : Option (List ℕ)) (v : CommandView) → IsSound h → v.numbers ≡ h.last
    → first_of (
    when (not (has_pool h pool)) cause.NoPool
    ∷ when (is_some (by_mac h mac) || is_some (by_uuid h uuid)) cause.Taken
    ∷ when (nat_le MAX_MACHINES (size h.machines)) cause.Full
    ∷ when (not (is_some (next_number h.last.machine))) cause.Exhausted
    ∷ []) ≡ None
    → Keeps h (added v mac arch pool uuid (next_number h.last.machine))
add_machine_sound h mac arch pool uuid v s numbers none = by (next_number h.last.machine) refl
  where
    by : (n : Option ℕ) → next_number h.last.machine ≡ n → Keeps h (added v mac arch pool uuid n)
    by None next = tt
    by (Some id) next =
        let pools = first_none (when (not (has_pool h pool)) cause.NoPool) _ none in
        let taken = first_none (when (is_some (by_mac h mac) || is_some (by_uuid h uuid)) cause.Taken) _ pools.1 in
        let full = first_none (when (nat_le MAX_MACHINES (size h.machines)) cause.Full) _ taken.1 in
        let free = or_parts (is_some (by_mac h mac)) (is_some (by_uuid h uuid)) (when_none (is_some (by_mac h mac) || is_some (by_uuid h uuid)) cause.Taken taken.0) in
        let room = leb-false MAX_MACHINES (size h.machines) (when_none (nat_le MAX_MACHINES (size h.machines)) cause.Full full.0) in
        subst (λ last. IsSound (applied (PutMachine (blank_machine id arch pool uuid) None ∷ PutInterface (record { mac = mac; machine = id }) ∷ PutNumbers (record last { machine = id }) ∷ []) h)) (sym numbers)
        (new_machine_sound h mac (blank_machine id arch pool uuid) s
        (blank_is_new h id arch pool uuid mac next room (none_mapped (λ i. i.machine) (at h.interfaces mac) free.0) (no_machine h uuid free.1) (unless_none (has_pool h pool) cause.NoPool pools.0)))
