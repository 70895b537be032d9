use Rattle.std.proofs.{Common.{arith, ◌≡◌, ◌<◌, ◌+◌, List, [], refl, sym, ◌∙◌, length, take, subst}, lemmas.{Grind.common_steps, List.take_more}}
use Rattle.desk_operations.{specs.{Prelude.{site_of, store_of, ImportRow}, Import.{IsImported, SettlesByAll}}, proofs.ImportLemmas.{if_err_of, in_turn_next, in_turn_none, in_turn_taken, imported_next, imported_none, kept_on, more_on, settled_next, settled_none, stopped_next}}
use Rattle.desk_operations.proofs.imports.add_rows.Goals as goal

pub loop-place-init : goal.loop-place-init
loop-place-init g c = record {
  clean = λ clean. clean;
  site = refl;
  history = λ clean. kept_on g.S.HallStore (site_of c.args.desk.now) c.args.bearer c.args.moment (store_of c.args.desk.now) (store_of c.args.desk.now) (λ h held. held);
  in_turn = λ clean. in_turn_none (site_of c.args.desk.now) c.args.bearer c.args.moment g.S.HallStore (store_of c.args.desk.now) [];
  settled = λ clean all. settled_none (site_of c.args.desk.now) c.args.bearer c.args.moment g.S.HallStore (store_of c.args.desk.now);
  imported = λ clean h held sound.
      imported_none g.S.HallStore (site_of c.args.desk.now) c.args.bearer c.args.moment (store_of c.args.desk.now) h (g.W.Write.contents c.args.writer.now) held sound;
}

pub loop-place-preserved : goal.loop-place-preserved
loop-place-preserved g c =
    let rows = c.args.rows.now in
    let place = c.loop-place.place in
    let here : place < length rows = c.loop-place-test.true in
    let counted : place + 1 ≡ 1 + length (take place rows) = grind (arith, common_steps) in
    let before = c.loop-place.invariant in
    let did = c.add_row.ensures.clean in
    record {
      clean = λ clean. before.clean (did clean);
      site = c.add_row.ensures.site ∙ before.site;
      history = λ clean.
          more_on g.S.HallStore (site_of c.args.desk.now) c.args.bearer c.args.moment (site_of c.loop-place.desk) before.site
          (store_of c.args.desk.now) (store_of c.loop-place.desk) (store_of c.add_row.new.desk) (before.history (did clean)) (c.add_row.ensures.history clean);
      in_turn = λ clean.
          in_turn_next (site_of c.args.desk.now) c.args.bearer c.args.moment g.S.HallStore (site_of c.loop-place.desk) before.site
          (store_of c.args.desk.now) (store_of c.loop-place.desk) (store_of c.add_row.new.desk) rows place c.index-rows-place.result here c.index-rows-place.is
          (before.in_turn (did clean)) (c.add_row.ensures.in_turn clean);
      settled = λ clean.
          settled_next (site_of c.args.desk.now) c.args.bearer c.args.moment g.S.HallStore (site_of c.loop-place.desk) before.site
          (store_of c.args.desk.now) (store_of c.loop-place.desk) (store_of c.add_row.new.desk) rows place c.index-rows-place.result here c.index-rows-place.is
          c.in_ok-was_ok.was_ok c.loop-place.end c.after_reply-end.result c.after_reply-end.ensures (before.settled (did clean)) (c.in_ok-was_ok.ensures.settled clean);
      imported = λ clean h held sound.
          rw (take_more rows place c.index-rows-place.result here, sym c.index-rows-place.is)
          (imported_next g.S.HallStore (site_of c.args.desk.now) c.args.bearer c.args.moment (site_of c.loop-place.desk) before.site
          (store_of c.loop-place.desk) (store_of c.add_row.new.desk) h (take place rows) c.index-rows-place.result (place + 1) c.in_ok-was_ok.was_ok
          c.loop-place.end c.after_reply-end.result (g.W.Write.contents c.args.writer.now) (g.W.Write.contents c.loop-place.writer) (g.W.Write.contents c.add_row.new.writer)
          counted c.after_reply-end.ensures (before.imported (did clean) h held sound) (c.in_ok-was_ok.ensures.done clean));
    }

pub returns-clause-imported : goal.returns-clause-imported
returns-clause-imported g c = λ clean h held sound.
    let whole : take c.loop-place.place c.args.rows.now ≡ c.args.rows.now = grind (arith, common_steps) in
    subst (λ (rows : List ImportRow). IsImported g.S.HallStore (store_of c.loop-place.desk) (site_of c.args.desk.now) c.args.bearer c.args.moment h rows c.loop-place.end
    (g.W.Write.contents c.args.writer.now) (g.W.Write.contents c.loop-place.writer)) whole (c.loop-place.invariant.imported clean h held sound)

pub returns-in_err-was_ok-clause-stopped : goal.returns-in_err-was_ok-clause-stopped
returns-in_err-was_ok-clause-stopped g c = λ clean.
    if_err_of c.from_residual.result _ _ c.from_residual.ensures.1 (λ h held sound.
    stopped_next g.S.HallStore (site_of c.args.desk.now) c.args.bearer c.args.moment (site_of c.loop-place.desk) c.loop-place.invariant.site
    (store_of c.loop-place.desk) (store_of c.add_row.new.desk) h c.args.rows.now c.loop-place.place c.index-rows-place.result c.loop-place.end _
    (g.W.Write.contents c.args.writer.now) (g.W.Write.contents c.loop-place.writer) (g.W.Write.contents c.add_row.new.writer) c.loop-place-test.true c.index-rows-place.is
    (c.loop-place.invariant.imported (c.add_row.ensures.clean clean) h held sound) (c.in_err-was_ok.ensures.stopped clean))

pub returns-in_err-was_ok-clause-history : goal.returns-in_err-was_ok-clause-history
returns-in_err-was_ok-clause-history g c = λ clean.
    more_on g.S.HallStore (site_of c.args.desk.now) c.args.bearer c.args.moment (site_of c.loop-place.desk) c.loop-place.invariant.site
    (store_of c.args.desk.now) (store_of c.loop-place.desk) (store_of c.add_row.new.desk) (c.loop-place.invariant.history (c.add_row.ensures.clean clean)) (c.add_row.ensures.history clean)

pub returns-clause-in_turn : goal.returns-clause-in_turn
returns-clause-in_turn g c = λ clean.
    in_turn_taken (site_of c.args.desk.now) c.args.bearer c.args.moment g.S.HallStore (store_of c.args.desk.now) (store_of c.loop-place.desk) c.args.rows.now c.loop-place.place
    (c.loop-place.invariant.in_turn clean)

pub returns-in_err-was_ok-clause-in_turn : goal.returns-in_err-was_ok-clause-in_turn
returns-in_err-was_ok-clause-in_turn g c = λ clean.
    in_turn_taken (site_of c.args.desk.now) c.args.bearer c.args.moment g.S.HallStore (store_of c.args.desk.now) (store_of c.add_row.new.desk) c.args.rows.now (c.loop-place.place + 1)
    (in_turn_next (site_of c.args.desk.now) c.args.bearer c.args.moment g.S.HallStore (site_of c.loop-place.desk) c.loop-place.invariant.site
    (store_of c.args.desk.now) (store_of c.loop-place.desk) (store_of c.add_row.new.desk) c.args.rows.now c.loop-place.place c.index-rows-place.result c.loop-place-test.true
    c.index-rows-place.is (c.loop-place.invariant.in_turn (c.add_row.ensures.clean clean)) (c.add_row.ensures.in_turn clean))

pub returns-clause-settled : goal.returns-clause-settled
returns-clause-settled g c = λ clean all.
    let whole : take c.loop-place.place c.args.rows.now ≡ c.args.rows.now = grind (arith, common_steps) in
    subst (SettlesByAll g.S.HallStore (store_of c.args.desk.now) (store_of c.loop-place.desk) (site_of c.args.desk.now) c.args.bearer c.args.moment) whole
    (c.loop-place.invariant.settled clean all)
