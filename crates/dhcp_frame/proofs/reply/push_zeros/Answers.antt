use Rattle.std.proofs.{Common.ℕ, lemmas.List.take-replicate}
use Rattle.dhcp_frame.proofs.ReplyLemmas.{appended-as}
use Rattle.dhcp_frame.proofs.reply.push_zeros.Goals as goal

pub returns : goal.returns
returns c = appended-as c.extend_from_slice.result _ _ _ _ c.extend_from_slice.ensures.items (take-replicate {X = ℕ} c.args.count 300 0 c.requires)
