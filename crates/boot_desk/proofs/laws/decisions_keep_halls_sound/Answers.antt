use Rattle.std.specs.Prelude.{List}
use Rattle.hall_types.specs.{Hall.applied, declared.change.RowWrite.RowWrite}
use Rattle.ipxe_script.specs.declared.command.Command.{Command}
use Rattle.boot_desk.{specs.{DecisionLaws.if_ok, NewMachineLaws.enlisted_sound, Sound.IsSound, declared.fault.Verdict.Verdict}, proofs.DecisionLemmas.{answered_keeps, fetched_keeps, reported_keeps, swept_keeps}}
use Rattle.boot_desk.proofs.laws.decisions_keep_halls_sound.Goals as goal

pub returns : goal.returns
returns c = record {
  script = λ h m host fresh moment rows script s was.
      if_ok (λ (d : List RowWrite × List Command). IsSound (applied d.0 h)) _ (rows, script) (fetched_keeps h m s was host moment fresh);
  report = λ h number token progress moment rows verdict s.
      if_ok (λ (d : List RowWrite × Verdict). IsSound (applied d.0 h)) _ (rows, verdict) (reported_keeps h s number token progress moment);
  answer = λ h number outcome moment rows verdict s.
      if_ok (λ (d : List RowWrite × Verdict). IsSound (applied d.0 h)) _ (rows, verdict) (answered_keeps h s number outcome moment);
  expiry = λ h m moment s was. swept_keeps h m s was moment;
  enlisting = enlisted_sound;
}
