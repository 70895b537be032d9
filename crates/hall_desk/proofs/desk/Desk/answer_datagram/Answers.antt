use Rattle.std.proofs.Common.{◌≡◌, refl, rules, subst}
use Rattle.hall_events.specs.declared.event.Event.TheVariants.{Frame}
use Rattle.hall_desk.{specs.{Prelude.Client, Account.{IsDecided, IsMoved}, AttemptLaws.{gives_missed, read_same}, Desk.site_of, Octets.{arrival_of, frame_answer}}, proofs.{AccountLemmas.frame_moved, AnsweringLemmas.gives, AttemptLemmas.gives_asked}}
use Rattle.hall_desk.specs.declared.account.Came.TheVariants as came
use Rattle.hall_desk.specs.declared.arrival.Input.TheVariants as input
use Rattle.hall_desk.proofs.desk.Desk.answer_datagram.Goals as goal

pub returns-in-Err : goal.returns-in-Err
returns-in-Err g c = gives (record { laws = c.histories_keep_the_laws.ensures }) g.S.HallStore _ _ (arrival_of c.args.stamp (input.Datagram c.args.port c.args.octets.now)) _ (record {
  site = refl;
  enlists = refl;
  answer = gives_missed g.S.HallStore g.S.HallStore.wider _ _ _ _ (input.Datagram c.args.port c.args.octets.now);
  came = search rules;
  found = search rules;
  unlisted = λ off datagram clean. read_same g.S.HallStore _;
})

pub returns-in-Err-client : goal.returns-in-Err-client
returns-in-Err-client g c = gives (record { laws = c.histories_keep_the_laws.ensures }) g.S.HallStore _ _ (arrival_of c.args.stamp (input.Datagram c.args.port c.args.octets.now)) _ (record {
  site = refl;
  enlists = refl;
  answer = gives_missed g.S.HallStore g.S.HallStore.wider _ _ _ _ (input.Datagram c.args.port c.args.octets.now);
  came = search rules;
  found = search rules;
  unlisted = λ off datagram clean. read_same g.S.HallStore _;
})

one_client : (a b : Client) → came.Client a ≡ came.Client b → a ≡ b
one_client a b is = cc

pub returns : goal.returns
returns g c =
    let carried = c.carry_frame-answer.ensures in
    gives (record { laws = c.histories_keep_the_laws.ensures }) g.S.HallStore _ _ (arrival_of c.args.stamp (input.Datagram c.args.port c.args.octets.now)) _ (record {
      site = carried.stays.site;
      enlists = carried.stays.enlists;
      answer = gives_asked g.S.HallStore (record { keep = c.decisions_keep_the_rules.ensures; sound = c.steps_keep_halls_sound.ensures.rows })
          g.S.HallStore.second_schema _ _ (site_of c.args.self.now) (input.Datagram c.args.port c.args.octets.now) _ _
          (Frame c.args.port c.in-Ok-client.client) (frame_answer (site_of c.args.self.now) c.in-Ok.frame c.in-Ok-client.client)
          (record {
            message = c.in-Ok.frame;
            client = c.in-Ok-client.client;
            from = record { carries = c.in-Ok.ensures.frame; sent = c.in-Ok-client.ensures.client };
            event = refl;
            sends = refl;
          })
          c.frame_is_typed.ensures c.carry_frame-answer.result c.given_or.result c.given_or.ensures (carried.carried c.args.stamp.moment c.args.stamp.fresh);
      came = search rules;
      found = λ clean h held client is.
          let same : c.in-Ok-client.client ≡ client = one_client _ _ is in
          subst (λ its. IsDecided c.args.self.now.enlists h c.args.port its c.carry_frame-answer.new.notes
          × IsMoved (site_of c.args.self.now) h c.args.port its c.args.stamp.moment c.args.stamp.fresh c.given_or.result c.carry_frame-answer.new.notes) same (
            carried.decided refl refl clean h held,
            rw c.given_or.ensures (frame_moved (g.S.HallStore.holds c.args.self.now.store) (site_of c.args.self.now) c.in-Ok.frame c.args.port c.in-Ok-client.client
                c.args.stamp.moment c.args.stamp.fresh c.carry_frame-answer.result _ c.carry_frame-answer.new.notes refl
                (carried.moved c.args.stamp.moment c.args.stamp.fresh clean) carried.unmoved (carried.carried c.args.stamp.moment c.args.stamp.fresh clean).1.answer h held),
          );
      unlisted = λ off datagram clean. carried.unlisted off clean;
    })
