use Rattle.std.proofs.Common.{ap, sym, ◌∙◌, inl, inr}
use Rattle.desk_operations.{specs.Frame.is_answer, proofs.FrameLemmas.is_short}
use Rattle.desk_operations.proofs.frames.is_served.Goals as goal

pub returns-in-Loader-clause-short : goal.returns-in-Loader-clause-short
returns-in-Loader-clause-short c = λ _. elim c.in-Loader.is [
  | inl loader ↦ is_short _ c.args.port c.args.client.now (ap is_answer (sym c.frame.ensures ∙ loader))
  | inr url ↦ is_short _ c.args.port c.args.client.now (ap is_answer (sym c.frame.ensures ∙ url))
]
