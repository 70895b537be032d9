use Rattle.std.proofs.Common.{◌∙◌, ap, ◌++◌, ℕ, List, [], ◌∷◌}
use Rattle.desk_operations.{specs.Prelude.encode_lower, proofs.FrameLemmas.{IsGood-understood, IsBad-none}}
use Rattle.desk_operations.proofs.frames.answer.Goals as goal

pub returns-in-Err-clause-bad : goal.returns-in-Err-clause-bad
returns-in-Err-clause-bad c = λ e. IsBad-none c.args.input.now c.in-Err.fault c.in-Err.ensures.fault cc

pub returns-in-Ok-None-clause-silence : goal.returns-in-Ok-None-clause-silence
returns-in-Ok-None-clause-silence c = λ _. record {
  addresses = c.in-Ok.input.addresses;
  octets = c.in-Ok.input.octets;
  good = IsGood-understood c.args.input.now c.in-Ok.input c.requires c.in-Ok.ensures.input;
  none = rw c.in-Ok-None.field-0-is at c.in-Ok-None.ensures;
}

pub returns-in-Ok-hex_line-clause-answer : goal.returns-in-Ok-hex_line-clause-answer
returns-in-Ok-hex_line-clause-answer c = record {
  addresses = c.in-Ok.input.addresses;
  octets = c.in-Ok.input.octets;
  reply = c.in-Ok-Some.reply.items;
  good = IsGood-understood c.args.input.now c.in-Ok.input c.requires c.in-Ok.ensures.input;
  is_reply = rw c.in-Ok-Some.field-0-is at c.in-Ok-Some.ensures;
  written = c.in-Ok-hex_line.ensures ∙ ap (λ (x : List ℕ). encode_lower x ++ 10 ∷ []) c.deref.ensures.value;
}
