use Rattle.std.{proofs.{Common.{rules, ◌≡◌, List, sym, subst}, lemmas.List.Sorted.{IsNonDecreasingBy-drop, IsPartitionPoint-from_clause, IsPartitionedBy-leb, IsPartitionedBy-ltb}}, specs.{Prelude.{drop, leb, ltb}, List.Sorted.IsNonDecreasingBy}}
use Rattle.hall_types.{specs.declared.machine.Interface.Interface, proofs.InterfaceLemmas.own_part}
use Rattle.hall_types.proofs.interfaces.own_interfaces.Goals as goal

pub returns : goal.returns
returns c =
    let xs = c.args.interfaces.now in
    let id = c.args.id in
    let first = c.partition_point-first.result in
    let rest = c.split_at.result.1.now in
    let later : rest ≡ drop first xs = search rules in
    let sorted : IsNonDecreasingBy (λ (i : Interface). i.machine) rest =
    subst (λ (ys : List Interface). IsNonDecreasingBy (λ (i : Interface). i.machine) ys) (sym later)
    (IsNonDecreasingBy-drop (λ (i : Interface). i.machine) first xs c.requires) in
    own_part (λ (i : Interface). i.machine) id xs rest _ first c.partition_point-count.result later (search rules)
    (IsPartitionPoint-from_clause (λ (i : Interface). ltb i.machine id) xs first c.partition_point-first.ensures.partitioned
    (IsPartitionedBy-ltb (λ (i : Interface). i.machine) xs id c.requires) (λ a r f' k. search rules))
    (IsPartitionPoint-from_clause (λ (i : Interface). leb i.machine id) rest c.partition_point-count.result c.partition_point-count.ensures.partitioned
    (IsPartitionedBy-leb (λ (i : Interface). i.machine) rest id sorted) (λ a r f' k. search rules))
