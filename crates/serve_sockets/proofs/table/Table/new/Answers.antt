use Rattle.std.proofs.{Common.{◌≡◌, ◌++◌, ◌∷◌, ◌∙◌, [], List, None, Option, ap, arith, count_by, is_some, refl, sym}, lemmas.{List.replicate_more, Result.IfOk-from_err}}
use Rattle.serve_sockets.{specs.declared.connection.Connection.Connection, proofs.TableLemmas.none_open}
use Rattle.serve_sockets.proofs.table.Table.new.Goals as goal

pub returns : goal.returns
returns g c =
    let all : c.loop.counter ≡ c.args.places = omega (arith, c.loop.auto.counter-end, c.loop-test.false) in
    rw (c.loop.invariant.free, all) refl

pub returns-in_err-slots : goal.returns-in_err-slots
returns-in_err-slots g c = IfOk-from_err c.from_residual.result _ c.from_residual.ensures.0

pub loop-init : goal.loop-init
loop-init g c = record { free = c.in_ok-slots.ensures.items; size = c.in_ok-slots.ensures.len }

pub returns-in_err-push : goal.returns-in_err-push
returns-in_err-push g c = IfOk-from_err c.from_residual-in_err-push.result _ c.from_residual-in_err-push.ensures.0

pub loop-preserved : goal.loop-preserved
loop-preserved g c = record {
  free = c.in_ok-push.ensures.items ∙ ap (λ (slots : List (Option (Connection g.row.T.Denot))). slots ++ None ∷ []) c.loop.invariant.free ∙ replicate_more c.loop.counter None;
  size = omega (arith, c.in_ok-push.ensures.len, c.loop.invariant.size);
}

pub invariant_of-result : goal.invariant_of-result
invariant_of-result g c =
    let all : c.loop.counter ≡ c.args.places = omega (arith, c.loop.auto.counter-end, c.loop-test.false) in
    record {
      some = omega (arith, c.loop.invariant.size, all, c.requires.some);
      few = omega (arith, c.loop.invariant.size, all, c.requires.few);
      counted = none_open (Connection g.row.T.Denot) c.loop.counter ∙ ap (count_by is_some) (sym c.loop.invariant.free);
    }
