use Rattle.std.proofs.Common.{◌≡◌, ◌∙◌, Ok, refl, rules, subst, sym}
use Rattle.hall_desk.{specs.{Prelude.{Content, Event, IsEvent}, Account.IsNoted, Desk.{site_of, store_of}, Octets.{arrival_of, response_answer}, declared.arrival.Answer.TheVariants.Unavailable}, proofs.{AccountLemmas.event_noted, AnsweringLemmas.gives, AttemptLemmas.{gives_asked, gives_refused}}}
use Rattle.hall_desk.specs.declared.account.Came.TheVariants as came
use Rattle.hall_desk.specs.declared.arrival.Input.TheVariants as input
use Rattle.hall_desk.proofs.desk.Desk.answer_request.Goals as goal

pub returns-in-Err : goal.returns-in-Err
returns-in-Err g c = gives (record { laws = c.histories_keep_the_laws.ensures }) g.S.HallStore _ _ (arrival_of c.args.stamp (input.Request c.args.request.now)) _ (record {
  site = refl;
  enlists = refl;
  answer = gives_refused g.S.HallStore g.S.HallStore.wider _ (site_of c.args.self.now) c.args.request.now _ _ c.in-Err.fault c.in-Err.ensures
      c.fault_response.result c.given_or-answer.result c.given_or-answer.ensures c.fault_response.ensures.known c.fault_response.ensures.response;
  came = search rules;
  found = search rules;
  unlisted = λ off datagram. absurd datagram;
})

one_event : (a b : Event) → came.Asked a ≡ came.Asked b → a ≡ b
one_event a b is = cc

response_available : (content : Content) → response_answer content ≡ Unavailable → ⊥
response_available content is = cc

pub returns : goal.returns
returns g c =
    let carried = c.carry_request-answer.ensures in
    gives (record { laws = c.histories_keep_the_laws.ensures }) g.S.HallStore _ _ (arrival_of c.args.stamp (input.Request c.args.request.now)) _ (record {
      site = carried.stays.site;
      enlists = carried.stays.enlists;
      answer = gives_asked g.S.HallStore (record { keep = c.decisions_keep_the_rules.ensures; sound = c.steps_keep_halls_sound.ensures.rows })
          g.S.HallStore.second_schema _ _ (site_of c.args.self.now) (input.Request c.args.request.now) _ _ c.event-event.result.now response_answer
          (subst (λ it. IsEvent c.args.request.now (Ok it)) (sym c.event-event.ensures) c.in-Ok.ensures, refl)
          c.event_is_typed.ensures c.carry_request-answer.result c.given_or.result c.given_or.ensures carried.carried;
      came = search rules;
      found = λ clean h held e is.
          subst (λ its. IsNoted (site_of c.args.self.now) h its c.args.stamp.moment c.args.stamp.fresh c.given_or.result c.carry_request-answer.new.notes) (c.event-event.ensures ∙ one_event _ _ is)
          (rw c.given_or.ensures (event_noted (g.S.HallStore.holds (store_of c.args.self.now)) (site_of c.args.self.now) c.event-event.result.now c.args.stamp.moment c.args.stamp.fresh response_answer
          response_available c.carry_request-answer.result c.carry_request-answer.new.notes carried.unmoved (carried.noted clean) (carried.carried clean).1.answer h held));
      unlisted = λ off datagram. absurd datagram;
    })
