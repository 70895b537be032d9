use Rattle.std.proofs.{Common.{rules, ◌≡◌, []}, lemmas.{Fn.always_returns_same, List.Sorted.IsNonDecreasingBy-from_sort_by_key, Result.on_ok_weaker}}
use Rattle.hall_types.{specs.declared.machine.Interface.Interface, proofs.InterfaceLemmas.{same_of}}
use Rattle.hall_types.proofs.interfaces.sort_by_machine.Goals as goal

pub returns-clause-sorted : goal.returns-clause-sorted
returns-clause-sorted c =
    on_ok_weaker c.sort_by_key.result
    (λ up. IsNonDecreasingBy-from_sort_by_key (λ (i : Interface). i.machine) c.sort_by_key.new.self.items up (λ a r f' k. search rules))
    c.sort_by_key.ensures.sorted

pub returns-clause-same : goal.returns-clause-same
returns-clause-same c =
    on_ok_weaker c.sort_by_key.result
    (λ up id. same_of (λ (i : Interface). i.machine) (record { mac = []; machine = id }) c.args.interfaces.now.items c.sort_by_key.new.self.items
    (c.sort_by_key.ensures.stable (λ (i : Interface). i.machine) (always_returns_same _ (λ a r. r ≡ a.0.now.machine) _ (λ a r f' k. search rules))))
    c.sort_by_key.ensures.sorted
