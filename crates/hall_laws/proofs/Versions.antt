-- A machine's version rises exactly where something else of it changes.
use Rattle.std.{proofs.{Common.{◌≡◌, ◌≢◌, ◌∙◌, ◌==◌, ℕ, false, not, List, [], ◌∷◌, Some, None, refl, sym, ap, subst, inl, inr, arith}, lemmas.{Bool.ne_eqb, Option.none-some}}, specs.Prelude.is_some}
use Rattle.hall_types.specs.{RowLaws.where_kept, Rows.{at, put}}
use Rattle.hall_types.specs.declared.change.RowWrite.TheVariants as write
use Rattle.boot_desk.specs.{EntryLaws.next_is, Fetch.booted}
use Rattle.hall_laws.{specs.{Prelude.{applied, applied_append, at-gone-other, at-gone-same, at-put-other, at-put-same, gone, gone_found, next_version, put_cases, rows_where, where_found, Hall, RowWrite, Interface, Machine, Content, Event, idle, row_at, IsSound, some_is, receipt_of}, Decision.Decided, HallLaws.{applied_entry, aside_hall, edited_hall, entered_hall}, Step.{IsStep, Step}, Writes.{EditsInterfaces, IsEditing, IsEntering, IsIdled, IsIssuing, IsMaking, Writes, WritesAll, edits_machine, ends_waiting, enters_status, issues_boot, machine_goes, makes_machine, notes_report, with_receipt, withdrawn_at, without_receipt, writes_aside, writes_nothing}, Laws.{IsVersioned, RaisesVersions, SameButVersion, SameInterfaces, rises, stays}}, proofs.{Effects.{StepDoes, decided, did, missed, step_does}, Enterings.{new_changes, new_id, new_version}}}

-- ---- the interfaces of a machine

module _ (h : Hall) (id : ℕ) (g : Hall) where
  same_interfaces : g.interfaces ≡ h.interfaces → SameInterfaces id h g
  same_interfaces is mac i its = (λ there. ap (λ rows. at rows mac) is ∙ there, λ there. ap (λ rows. at rows mac) (sym is) ∙ there)

  -- another machine has a new one
  other_given : (new : Interface) → at h.interfaces new.mac ≡ None → new.machine ≢ id → g.interfaces ≡ put new.mac new h.interfaces → SameInterfaces id h g
  other_given new free apart is mac i its = (
    λ there. ap (λ rows. at rows mac) is
        ∙ (at-put-other h.interfaces new.mac new mac (λ own. none-some i (sym free ∙ (ap (at h.interfaces) (sym own) ∙ there))) ∙ there),
    λ there. elim (put_cases h.interfaces new.mac new mac i (ap (λ rows. at rows mac) (sym is) ∙ there)) [
      | inl w ↦ absurd (apart (ap (λ (x : Interface). x.machine) (sym w.1) ∙ its))
      | inr w ↦ w.1
    ],
  )

  -- one of another machine goes
  other_taken : (mac : List ℕ) (was : Interface) → at h.interfaces mac ≡ Some was → was.machine ≢ id → g.interfaces ≡ gone mac h.interfaces → SameInterfaces id h g
  other_taken mac was recorded apart is its_mac i its = (
    λ there. ap (λ rows. at rows its_mac) is ∙ (at-gone-other h.interfaces mac its_mac (not_this there) ∙ there),
    λ there. (gone_found h.interfaces mac its_mac i (ap (λ rows. at rows its_mac) (sym is) ∙ there)).1,
  )
    where
      not_this : at h.interfaces its_mac ≡ Some i → its_mac ≢ mac
      not_this there own =
          apart (ap (λ (x : Interface). x.machine) (some_is was i (sym recorded ∙ (ap (at h.interfaces) (sym own) ∙ there))) ∙ its)

  -- another machine goes, with all that it has
  other_gone : (gone_id : ℕ) → id ≢ gone_id → g.interfaces ≡ rows_where (λ (x : Interface). not (x.machine == gone_id)) h.interfaces → SameInterfaces id h g
  other_gone gone_id apart is mac i its = (
    λ there. ap (λ rows. at rows mac) is ∙ where_kept (λ (x : Interface). not (x.machine == gone_id)) h.interfaces mac i there (ap not differ),
    λ there. (where_found (λ (x : Interface). not (x.machine == gone_id)) h.interfaces mac i (ap (λ rows. at rows mac) (sym is) ∙ there)).0,
  )
    where
      differ : (i.machine == gone_id) ≡ false
      differ = ne_eqb i.machine gone_id (λ same. apart (sym its ∙ same))

interfaces_in : (h : Hall) (id : ℕ) (g g' : Hall) → g'.interfaces ≡ g.interfaces → SameInterfaces id h g → SameInterfaces id h g'
interfaces_in h id g g' is same mac i its =
    (λ there. ap (λ rows. at rows mac) is ∙ (same mac i its).0 there, λ there. (same mac i its).1 (ap (λ rows. at rows mac) (sym is) ∙ there))

-- ---- the version of a machine

module _ (h : Hall) (id : ℕ) (m : Machine) (was : at h.machines id ≡ Some m) where
  -- what becomes of it in this hall
  abbrev pub Versions : Hall → Type 0
  Versions g = (k : Machine) → at g.machines id ≡ Some k → IsVersioned id h g m k

  as_it_was : (g : Hall) → g.machines ≡ h.machines → g.interfaces ≡ h.interfaces → Versions g
  as_it_was g machines interfaces k is = stays (some_is k m (sym is ∙ (ap (λ rows. at rows id) machines ∙ was))) (same_interfaces h id g interfaces)

  -- a hall with the same machines and interfaces
  as_in : (g g' : Hall) → g'.machines ≡ g.machines → g'.interfaces ≡ g.interfaces → Versions g → Versions g'
  as_in g g' machines interfaces versions k is = elim (versions k (ap (λ rows. at rows id) (sym machines) ∙ is)) [
    | stays row same ↦ stays row (interfaces_in h id g g' interfaces same)
    | rises version changes ↦ rises version (λ row same. changes row (interfaces_in h id g' g (sym interfaces) same))
  ]

  -- this row is put in the place of its machine's own
  row_put : (g : Hall) (x after : Machine) → at h.machines x.id ≡ Some x → after.id ≡ x.id → g.machines ≡ put after.id after h.machines → after.version ≡ next_version x.version
      → (SameButVersion x after → SameInterfaces x.id h g → ⊥) → (id ≢ x.id → SameInterfaces id h g) → Versions g
  row_put g x after found own machines version changes others k is = elim (put_cases h.machines after.id after id k (ap (λ rows. at rows id) (sym machines) ∙ is)) [
    | inl w ↦
        let its : id ≡ x.id = w.0 ∙ own in
        let same : m ≡ x = some_is m x (sym was ∙ (ap (at h.machines) its ∙ found)) in
        rises (ap (λ (y : Machine). y.version) w.1 ∙ (version ∙ ap (λ (y : Machine). next_version y.version) (sym same)))
        (λ row interfaces. changes (subst (λ (y : Machine). SameButVersion y after) same (subst (SameButVersion m) w.1 row)) (subst (λ n. SameInterfaces n h g) its interfaces))
    | inr w ↦ stays (some_is k m (sym w.1 ∙ was)) (others (λ its. w.0 (its ∙ sym own)))
  ]

  -- ---- an edit of a machine

  edit_changes : (g : Hall) (x after : Machine) (ws : List RowWrite) → EditsInterfaces h x ws → g.interfaces ≡ (applied ws h).interfaces
      → (ws ≡ [] → SameButVersion x after → ⊥) → SameButVersion x after → SameInterfaces x.id h g → ⊥
  edit_changes g x after [] edits is changes row interfaces = changes refl row
  edit_changes g x after (write.PutInterface i ∷ []) edits is changes row interfaces =
      none-some i (sym edits.0 ∙ (interfaces i.mac i edits.1).1 (ap (λ rows. at rows i.mac) is ∙ at-put-same h.interfaces i.mac i))
  edit_changes g x after (write.InterfaceGone mac ∷ []) edits is changes row interfaces =
      none-some edits.0 (sym (at-gone-same h.interfaces mac) ∙ (ap (λ rows. at rows mac) (sym is) ∙ (interfaces mac edits.0 edits.2).0 edits.1))
  edit_changes g x after other edits is changes row interfaces = absurd edits

  edit_spares : (g : Hall) (x : Machine) (ws : List RowWrite) → EditsInterfaces h x ws → g.interfaces ≡ (applied ws h).interfaces → id ≢ x.id → SameInterfaces id h g
  edit_spares g x [] edits is apart = same_interfaces h id g is
  edit_spares g x (write.PutInterface i ∷ []) edits is apart = other_given h id g i edits.0 (λ its. apart (sym its ∙ edits.1)) is
  edit_spares g x (write.InterfaceGone mac ∷ []) edits is apart = other_taken h id g mac edits.0 edits.1 (λ its. apart (sym its ∙ edits.2)) is
  edit_spares g x other edits is apart = absurd edits

  -- ---- each way to write

  module _ (s : IsSound h) (e : Event) (moment : ℕ) (fresh : List ℕ) (rows : List RowWrite) (content : Content) where
    abbrev after_rows : Hall
    after_rows = applied rows h

    making : IsMaking h rows → Versions after_rows
    making x k is = stays (some_is k m (sym is ∙ (ap (λ (ws : List RowWrite). at (applied ws h).machines id) x.rows_are ∙ (at-put-other h.machines x.machine.id x.machine id another ∙ was))))
        (other_given h id after_rows x.interface x.free (λ its. another (sym its ∙ x.its)) (ap (λ (ws : List RowWrite). (applied ws h).interfaces) x.rows_are))
      where
        another : id ≢ x.machine.id
        another same = omega (arith, same, next_is h.last.machine x.machine.id x.next, s.last_machine id (ap (λ o. is_some o) was))

    issuing : IsIssuing h e fresh rows → Versions after_rows
    issuing x =
        row_put after_rows x.machine (booted x.number x.machine) x.found refl (ap (λ (ws : List RowWrite). (applied ws h).machines) x.rows_are) refl
        (λ row interfaces. new_number (sym (ap (λ (y : Machine). y.boot) row))) (λ apart. same_interfaces h id after_rows (ap (λ (ws : List RowWrite). (applied ws h).interfaces) x.rows_are))
      where
        new_number : x.machine.boot ≢ Some x.number
        new_number its =
            let b = (s.machines x.machine.id x.machine x.found).boot x.number its in
            omega (arith, next_is h.last.boot x.number x.next, s.last_boot x.number (ap (λ o. is_some o) (ap (row_at h.boots) (sym its) ∙ b.1)))

    entering : IsEntering h e moment rows content → Versions after_rows
    entering x =
        row_put after_rows x.machine x.new.machine x.found (new_id h e moment rows content x) (ap (λ (g : Hall). g.machines) is) (new_version h e moment rows content x)
        (λ row interfaces. new_changes h e moment rows content x s (ap (λ (y : Machine). y.status) row)) (λ apart. same_interfaces h id after_rows (ap (λ (g : Hall). g.interfaces) is))
      where
        is : after_rows ≡ entered_hall h x.first (withdrawn_at h x.machine x.first) x.new
        is = ap (λ (ws : List RowWrite). applied ws h) x.rows_are ∙ applied_entry h x.first x.machine (withdrawn_at h x.machine x.first) x.new

    idling : IsIdled h e rows content → Versions after_rows
    idling x =
        row_put after_rows x.machine (idle x.machine) x.found refl (ap (λ (ws : List RowWrite). (applied ws h).machines) x.rows_are) refl
        (λ row interfaces. none-some x.order.number (ap (λ (y : Machine). y.waiting) row ∙ waited)) (λ apart. same_interfaces h id after_rows (ap (λ (ws : List RowWrite). (applied ws h).interfaces) x.rows_are))
      where
        waited : x.machine.waiting ≡ Some x.order.number
        waited =
            let w = s.waiting x.order.number x.order x.cause.recorded x.cause.waits in
            ap (λ (y : Machine). y.waiting) (some_is x.machine w.0 (sym x.found ∙ (ap (at h.machines) (sym x.cause.its) ∙ w.1))) ∙ w.2

    editing : IsEditing h rows → Versions after_rows
    editing x =
        row_put after_rows x.machine x.after x.found (ap (λ (y : Machine). y.id) x.same) (ap (λ (g : Hall). g.machines) is) x.version
        (edit_changes after_rows x.machine x.after x.interfaces x.edits (ap (λ (g : Hall). g.interfaces) is) x.changes)
        (edit_spares after_rows x.machine x.interfaces x.edits (ap (λ (g : Hall). g.interfaces) is))
      where
        is : after_rows ≡ record h { machines = put x.after.id x.after h.machines; interfaces = (applied x.interfaces h).interfaces }
        is = ap (λ (ws : List RowWrite). applied ws h) x.rows_are ∙ edited_hall h x.machine x.after x.interfaces x.edits

    deleting : (gone_id : ℕ) → rows ≡ write.MachineGone gone_id ∷ [] → Versions after_rows
    deleting gone_id is k there =
        let w = gone_found h.machines gone_id id k (ap (λ (ws : List RowWrite). at (applied ws h).machines id) (sym is) ∙ there) in
        stays (some_is k m (sym w.1 ∙ was)) (other_gone h id after_rows gone_id w.0 (ap (λ (ws : List RowWrite). (applied ws h).interfaces) is))

    raises_rows : Writes h e moment fresh rows content → Versions after_rows
    raises_rows (writes_nothing quiet is) =
        as_it_was after_rows (ap (λ (ws : List RowWrite). (applied ws h).machines) is) (ap (λ (ws : List RowWrite). (applied ws h).interfaces) is)
    raises_rows (makes_machine by x) = making x
    raises_rows (issues_boot x) = issuing x
    raises_rows (enters_status x) = entering x
    raises_rows (notes_report x) =
        as_it_was after_rows (ap (λ (ws : List RowWrite). (applied ws h).machines) x.rows_are) (ap (λ (ws : List RowWrite). (applied ws h).interfaces) x.rows_are)
    raises_rows (ends_waiting x) = idling x
    raises_rows (edits_machine by x) = editing x
    raises_rows (machine_goes gone_id by is) = deleting gone_id is
    raises_rows (writes_aside by x) =
        as_it_was after_rows (ap (λ (ws : List RowWrite). (applied ws h).machines) x.rows_are ∙ ap (λ (g : Hall). g.machines) (aside_hall h e x.row x.aside))
        (ap (λ (ws : List RowWrite). (applied ws h).interfaces) x.rows_are ∙ ap (λ (g : Hall). g.interfaces) (aside_hall h e x.row x.aside))

  -- with the receipt, if there is one
  raises_all : IsSound h → (e : Event) (moment : ℕ) (fresh : List ℕ) (d : Decided) → WritesAll h e moment fresh d → Versions (applied d.rows h)
  raises_all s e moment fresh d (without_receipt none w) = raises_rows s e moment fresh d.rows d.content w
  raises_all s e moment fresh d (with_receipt own w x) =
      as_in (applied own h) (applied d.rows h) (ap (λ (g : Hall). g.machines) is) (ap (λ (g : Hall). g.interfaces) is) (raises_rows s e moment fresh own d.content w)
    where
      is : applied d.rows h ≡ applied (write.PutReceipt (receipt_of x.operator x.key x.command d.content) ∷ []) (applied own h)
      is = ap (λ (ws : List RowWrite). applied ws h) x.rows_are ∙ applied_append own (write.PutReceipt (receipt_of x.operator x.key x.command d.content) ∷ []) h

pub raises_versions : (past : List Step) (s : Step) → IsStep s → IsSound s.before → RaisesVersions past s
raises_versions past s step sound id m k was is = by (step_does s step sound)
  where
    by : StepDoes s → IsVersioned id s.before s.after m k
    by (missed answer after) = as_it_was s.before id m was s.after (ap (λ (g : Hall). g.machines) after) (ap (λ (g : Hall). g.interfaces) after) k is
    by (did answer after writes effect) =
        subst (Versions s.before id m was) (sym after) (raises_all s.before id m was sound s.arrival.event s.arrival.moment s.arrival.fresh (decided s) writes) k is
