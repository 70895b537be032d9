use Rattle.std.proofs.{Common.{◌∙◌, ap, arith, refl, sym}, KnownBytes.Keeps-refl}
use Rattle.serve_sockets.{specs.{Prelude.octets_of, declared.connection.Sending.Sending}, proofs.{ConnectionLemmas.{written_all, written_fits, written_more, written_none, written_same, written_within}, writing.write.Goals.{then-sending-len+in-Ok, else-sending-len}}}
use Rattle.serve_sockets.proofs.writing.write.Goals as goal

pub returns-in-Ok-eq0-clause-octets : goal.returns-in-Ok-eq0-clause-octets
returns-in-Ok-eq0-clause-octets g c = written_none _ _ _ _ _ _ _ c.write.ensures.bytes c.in-Ok-eq0.is c.in-Ok-eq0.field-0-test refl

pub overflow_add-sending : goal.overflow_add-sending
overflow_add-sending g c = written_fits _ _ (written_within _ _ c.octets-octets.result.now _ refl c.if-sending-len.true c.in-Ok.ensures.bound) c.octets-octets.type_inv.0

pub invariant_of-sending : goal.invariant_of-sending
invariant_of-sending g c = record { within = written_within _ _ c.octets-octets.result.now (octets_of c.args.sending.now.answer) c.octets-octets.ensures c.if-sending-len.true c.in-Ok.ensures.bound }

pub returns-then-sending-len-2-clause-octets : goal.returns-then-sending-len-2-clause-octets
returns-then-sending-len-2-clause-octets g c = elim c.if-sending-len.branch [
  | then-sending-len+in-Ok w ↦ rw (w.stream-is, w.sending-is)
      (written_more _ _ _ c.octets-octets.result.now (octets_of c.args.sending.now.answer) c.args.sending.now.written w.in-Ok.count refl c.octets-octets.ensures w.in-Ok.ensures.bytes)
  | else-sending-len w ↦ rw (w.stream-is, w.sending-is) (written_same _ _ _ _ (Keeps-refl _) refl)
]

pub returns-else-sending-len-2-clause-octets : goal.returns-else-sending-len-2-clause-octets
returns-else-sending-len-2-clause-octets g c = elim c.if-sending-len.branch [
  | then-sending-len+in-Ok w ↦ rw (w.stream-is, w.sending-is)
      (written_more _ _ _ c.octets-octets.result.now (octets_of c.args.sending.now.answer) c.args.sending.now.written w.in-Ok.count refl c.octets-octets.ensures w.in-Ok.ensures.bytes)
  | else-sending-len w ↦ rw (w.stream-is, w.sending-is) (written_same _ _ _ _ (Keeps-refl _) refl)
]

pub returns-then-sending-len-2-clause-put : goal.returns-then-sending-len-2-clause-put
returns-then-sending-len-2-clause-put g c = elim c.if-sending-len.branch [
  | then-sending-len+in-Ok w ↦ rw w.since-is refl
  | else-sending-len w ↦ absurd (omega (arith, ap (λ (s : Sending). s.written) w.sending-is, w.if-sending-len.false, c.if-sending-len-2.true))
]

pub returns-else-sending-len-2-clause-put : goal.returns-else-sending-len-2-clause-put
returns-else-sending-len-2-clause-put g c = elim c.if-sending-len.branch [
  | then-sending-len+in-Ok w ↦ written_all _ c.octets-octets.result.now (octets_of c.if-sending-len.sending.answer) (c.octets-octets.ensures ∙ sym (ap (λ (s : Sending). octets_of s.answer) w.sending-is)) c.if-sending-len-2.false
  | else-sending-len w ↦ written_all _ c.octets-octets.result.now (octets_of c.if-sending-len.sending.answer) (c.octets-octets.ensures ∙ sym (ap (λ (s : Sending). octets_of s.answer) w.sending-is)) c.if-sending-len-2.false
]
