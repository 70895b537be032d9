use Rattle.std.proofs.{Common.{◌+◌, ◌∙◌, ℕ, ap, length, sym}, lemmas.List.length-replicate}
use Rattle.serve_sockets.proofs.room.Room.new.Goals as goal

pub new-requires-clause-some : goal.new-requires-clause-some
new-requires-clause-some c = c.requires.some

pub new-requires-clause-few : goal.new-requires-clause-few
new-requires-clause-few c = c.requires.few

pub new-requires-2 : goal.new-requires-2
new-requires-2 c = c.requires.few

pub invariant_of-result : goal.invariant_of-result
invariant_of-result c = record {
  agree = ap length c.in_ok-new-2.ensures ∙ length-replicate _ _ ∙ ap (λ (n : ℕ). n + 3) (sym (ap length c.in_ok-new.ensures ∙ length-replicate _ _));
}
