use Rattle.std.proofs.{Common.{◌≡◌, ◌==◌, List, IfOk, filter, map, subst, ap, ◌∙◌}, Math.Path.fun_ext}
use Rattle.hall_desk.specs.Prelude.{second, Interface, Machine, ListedMachine, listed, machine_list, reply_of}
use Rattle.hall_desk.proofs.listing.machine_list_reply.Goals as goal

pub returns : goal.returns
returns c =
    subst (λ ms. IfOk c.sorted_reply.result (λ reply. reply ≡ reply_of second (machine_list ms)))
    (ap (λ (is : List Interface). map (λ m. listed m (filter (λ i. i.machine == m.id) is)) c.args.machines.now) c.deref.ensures.value
    ∙ ap (λ (f : Machine → ListedMachine). map f c.args.machines.now) (fun_ext (λ m. ap (listed m) (c.in_ok-sort_by_machine.ensures.same m.id))))
    c.sorted_reply.ensures
