use Rattle.std.proofs.Common.{None, ◌∙◌, ◌&&◌, ◌||◌, Bool, ap, subst, sym}
use Rattle.serve_sockets.{specs.{Prelude.Input, Turn.{IsOfDatagram, is_unavailable}}, proofs.{OwnLemmas.{none_new, same_answers}, TurnLemmas.{still_opening, told_unavailable}}}
use Rattle.serve_sockets.proofs.service.Service.quiet.Goals as goal

pub returns-clause-desk : goal.returns-clause-desk
returns-clause-desk g c =
    let it = c.answer_quiet-answered.ensures.answered in
    record {
      kept = record { clean = λ clean. (it.given clean).0; site = it.site; enlists = it.enlists; closed = λ clean. (it.given clean).1.base None };
      did = λ clean. record {
        what = Input.Quiet;
        said = c.answer_quiet-answered.result.0;
        tells = record { kind = c.handover.ensures.kind; size = c.handover.ensures.len; said = c.handover.ensures.said };
        answered = (it.given clean).1;
        own = none_new _ _ _ (same_answers _ _ c.retry.ensures);
      };
      unlisted = λ off frame. absurd (subst IsOfDatagram c.handover.ensures.kind frame);
    }

pub returns-clause-opened : goal.returns-clause-opened
returns-clause-opened g c = λ begun.
    c.is_still_opening-self.ensures ∙ ap (λ (b : Bool). b && (c.is_some-moved.result || is_unavailable c.answer_quiet-answered.result.0)) begun

pub returns-clause-shut : goal.returns-clause-shut
returns-clause-shut g c = λ told.
    c.is_still_opening-self.ensures ∙ still_opening _ _ _ (told_unavailable c.answer_quiet-answered.result.0 (sym c.handover.ensures.said ∙ told))
