use Rattle.std.proofs.Common.{rules}
use Rattle.desk_command.proofs.ClientLemmas.{known_enough}
use Rattle.desk_command.proofs.clients.frame_view.Goals as goal

pub returns-in-Some : goal.returns-in-Some
returns-in-Some g c clean = (
  search rules,
  record {
    answer = λ h held. known_enough h c.args.client.now _ c.in-Some.field-0 c.in-Some.is (search rules) (search rules);
    same = λ h held. search rules;
    crash = λ h held hs left. search rules;
    base = λ base over. search rules;
  },
)
