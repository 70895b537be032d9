-- The list of all machines, each with its own interfaces.
use Rattle.std.{proofs.Common.{◌≡◌, List, [], sym, ap, ◌∙◌}, specs.{declared.alloc.AllocError.AllocError, Prelude.{filter, map, Result, Ok, Err, IfOk, ◌==◌}}}
use Rattle.hall_desk.specs.{Prelude.{ListedMachine, listed, machine_list, reply_of, Reply, RowWrite, Interface, Machine, Hall, second, listed_of, says}, Plan.Plans}
use Rattle.hall_store.specs.declared.store.Unavailable.{Unavailable}
use Rattle.hall_types.specs.Rows.{listed as rows_of}

-- the machines and the interfaces of a hall
all_listed : (h : Hall) (ms : List Machine) (is : List Interface) → ms ≡ rows_of h.machines → is ≡ rows_of h.interfaces
    → map (λ m. listed m (filter (λ i. i.machine == m.id) is)) ms ≡ map (listed_of h) (rows_of h.machines)
all_listed h ms is machines interfaces =
    ap (λ (all : List Machine). map (λ m. listed m (filter (λ i. i.machine == m.id) is)) all) machines
    ∙ ap (λ (all : List Interface). map (λ m. listed m (filter (λ i. i.machine == m.id) all)) (rows_of h.machines)) interfaces

abbrev AnswerIs : Result Reply AllocError → Reply → Type 0
AnswerIs r y = r ≡ Ok y

ok_is : (x y : Reply) → AnswerIs (Ok x) y → x ≡ y
ok_is x y e = cc

no_err : (e : AllocError) (y : Reply) → AnswerIs (Err e) y → ⊥
no_err e y is = cc

-- the answer with them is planned
pub plan_of_list : (held : Hall → Type 0) (ms : List Machine) (is : List Interface)
    → ((h : Hall) → held h → ms ≡ rows_of h.machines) → ((h : Hall) → held h → is ≡ rows_of h.interfaces)
    → (r : Result Reply AllocError) → IfOk r (λ reply. reply ≡ reply_of second (machine_list (map (λ m. listed m (filter (λ i. i.machine == m.id) is)) ms)))
    → (p : Result (List RowWrite × Reply) Unavailable) → IfOk p (λ planned. (planned.0 ≡ []) × (r ≡ Ok planned.1))
    → IfOk p (λ planned. (h : Hall) → held h → Plans (says (machine_list (map (listed_of h) (rows_of h.machines)))) planned)
plan_of_list held ms is machines interfaces (Ok reply) made (Ok planned) said = λ h its. record {
  writes = said.0;
  answers = sym (ok_is reply planned.1 said.1) ∙ made ∙ ap (λ (all : List ListedMachine). reply_of second (machine_list all)) (all_listed h ms is (machines h its) (interfaces h its));
}
plan_of_list held ms is machines interfaces (Err error) made (Ok planned) said = absurd (no_err error planned.1 said.1)
plan_of_list held ms is machines interfaces r made (Err error) said = tt
