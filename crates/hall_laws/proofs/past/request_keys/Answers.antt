use Rattle.hall_laws.{specs.{Prelude.second, Laws.{AcceptsOnce, AcceptsWithOk, AnswersAccepted, RepeatsFirst}}, proofs.{Frame.{always, at_step, from_new}, Keys.{KeepsReceipts, accepts_once, accepts_with_ok, keys_step, new_keys, repeats_first}, Receipts.{AllOfAccepted, answers_accepted, no_receipts, receipts_step}}}
use Rattle.hall_laws.proofs.past.request_keys.Goals as goal

pub returns : goal.returns
returns c = record {
  once = always c.steps_keep_halls_sound.ensures.step KeepsReceipts keys_step new_keys AcceptsOnce accepts_once;
  ok = at_step c.steps_keep_halls_sound.ensures.step AcceptsWithOk accepts_with_ok;
  again = always c.steps_keep_halls_sound.ensures.step KeepsReceipts keys_step new_keys RepeatsFirst repeats_first;
  accepted = from_new c.steps_keep_halls_sound.ensures.step AllOfAccepted receipts_step (c.new_halls_are_sound.ensures second) no_receipts AnswersAccepted answers_accepted;
}
