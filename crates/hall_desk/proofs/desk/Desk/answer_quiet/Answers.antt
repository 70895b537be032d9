use Rattle.std.proofs.Common.{◌≡◌, refl, rules}
use Rattle.hall_events.specs.declared.event.Event.TheVariants.{Quiet}
use Rattle.hall_desk.{specs.{Prelude.Content, Desk.{site_of, store_of}, Octets.{arrival_of, no_answer}, declared.arrival.Answer.TheVariants.Unavailable}, proofs.{AccountLemmas.event_noted, AnsweringLemmas.gives, AttemptLemmas.gives_asked}}
use Rattle.hall_desk.specs.declared.arrival.Input.TheVariants as input
use Rattle.hall_desk.proofs.desk.Desk.answer_quiet.Goals as goal

silence_available : (content : Content) → no_answer content ≡ Unavailable → ⊥
silence_available content is = cc

pub returns : goal.returns
returns g c = gives (record { laws = c.histories_keep_the_laws.ensures }) g.S.HallStore _ _ (arrival_of c.args.stamp input.Quiet) _ (record {
  site = search rules;
  enlists = search rules;
  answer = gives_asked g.S.HallStore (record { keep = c.decisions_keep_the_rules.ensures; sound = c.steps_keep_halls_sound.ensures.rows })
      g.S.HallStore.second_schema _ _ (site_of c.args.self.now) input.Quiet _ _ Quiet no_answer (refl, refl)
      c.event_is_typed.ensures c.carry_quiet-answer.result c.given_or.result c.given_or.ensures c.carry_quiet-answer.ensures.carried;
  came = search rules;
  found = λ clean h held.
      rw c.given_or.ensures (event_noted (g.S.HallStore.holds (store_of c.args.self.now)) (site_of c.args.self.now) Quiet c.args.stamp.moment c.args.stamp.fresh no_answer
      silence_available c.carry_quiet-answer.result c.carry_quiet-answer.new.notes c.carry_quiet-answer.ensures.unmoved (c.carry_quiet-answer.ensures.noted clean)
      (c.carry_quiet-answer.ensures.carried clean).1.answer h held);
  unlisted = λ off datagram. absurd datagram;
})
