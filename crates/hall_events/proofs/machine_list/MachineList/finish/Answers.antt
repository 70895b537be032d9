use Rattle.std.{proofs.Common.{ap, ◌∙◌}, specs.Prelude.string_bytes}
use Rattle.hall_events.{specs.declared.reply.{Reply.TheVariants.Http, BodyKind.TheVariants.Json}, proofs.ReplyLemmas.listing_ends}
use Rattle.hall_events.proofs.machine_list.MachineList.finish.Goals as goal

pub returns : goal.returns
returns c = λ machines is.
    c.json_reply.ensures
    ∙ ap (Http 200 Json) c.in_ok-push_str.ensures.bytes
    ∙ listing_ends (record { text = string_bytes c.self.inside.text; any = c.self.inside.any }) machines (c.self.view_is ∙ is)
