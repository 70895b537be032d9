use Rattle.std.{proofs.Common.{◌≡◌, ◌++◌, ◌∷◌, [], ◌∙◌, IfOk, Result, ap, subst, sym}, specs.declared.alloc.AllocError.AllocError}
use Rattle.hall_types.specs.Hall.{second}
use Rattle.hall_events.specs.{Listing.Listing, Reply.{machine_list, reply_of, with_machine}, ReplyLaws.listing-push, declared.reply.Reply.Reply}
use Rattle.hallctl_texts.proofs.listed_replies.machines_reply.Goals as goal

pub loop-object-init : goal.loop-object-init
loop-object-init c = ([], c.in_ok-list.ensures)

pub loop-object-preserved : goal.loop-object-preserved
loop-object-preserved c =
    let so_far = c.loop-object.invariant in
    let one = c.in_ok-push_object.ensures c.if-not-branch.false in
    (so_far.0 ++ one.0 ∷ [], one.1 ∙ ap (λ (list : Listing). with_machine list one.0) so_far.1 ∙ sym (listing-push so_far.0 one.0))

pub returns : goal.returns
returns c =
    let all = c.loop-object.invariant in
    (all.0, subst (λ (r : Result Reply AllocError). IfOk r (λ reply. reply ≡ reply_of second (machine_list all.0))) c.in_ok-reply.was (c.finish.ensures all.0 all.1))
