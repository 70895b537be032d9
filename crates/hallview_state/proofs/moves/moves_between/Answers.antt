use Rattle.std.{proofs.{Common.{All, ◌≡◌, rules, sym, ap, ◌∙◌, subst, append-nil, List, [], ◌∷◌, ◌++◌}, lemmas.List.Elements.All-push}, specs.{Prelude.{Option, Some, None, filter_map, take, ◌+◌}, List.cons_option}}
use Rattle.hallview_state.specs.{Moves.{IsMove, move_of}, declared.{listed.Listed.Listed, moves.Move.Move}}
use Rattle.hallview_state.proofs.SearchLemmas.{picked_more}
use Rattle.hallview_state.proofs.moves.moves_between.Goals as goal
use Rattle.hallview_state.proofs.moves.moves_between.Goals.{in-Some+in_ok-push, in_default}

pub loop-one-preserved : goal.loop-one-preserved
loop-one-preserved c =
    let P = IsMove c.args.before.now c.args.after.now c.args.at in
    let one = c.one-item.result in
    let xs : List Listed = c.args.after.now in
    let i = c.loop-one.one-index in
    let h : Listed → Option Move = move_of c.args.before.now c.args.at in
    let more : (o : Option Move) → h one ≡ o → filter_map h (take (i + 1) xs) ≡ filter_map h (take i xs) ++ cons_option o [] =
    λ o is. picked_more h xs i one o (search rules) (ap h (sym c.one-item.is) ∙ is) in
    elim c.match-move_of.branch [
      | in-Some+in_ok-push w ↦
          let step = w.in-Some.step in
          let found = w.in-Some.ensures in
          let is : P step = record { at = found.at; was = found.from; is = (one, (i, search rules, search rules), search rules, search rules); moved = found.moved } in (
            subst (λ moves. All P moves.items) (sym w.moves-is) (subst (All P) (sym w.in_ok-push.ensures.items) (All-push P c.loop-one.moves.items step c.loop-one.invariant.0 is)),
            (λ up. ap (λ moves. moves.items) w.moves-is ∙ w.in_ok-push.ensures.items ∙ ap (λ moves. moves ++ step ∷ []) (c.loop-one.invariant.1 up)
                ∙ sym (more (Some step) (sym (w.in-Some.ensures.exact up)))),
          )
      | in_default w ↦
          let none : c.move_of.result ≡ None = search rules in (
            subst (λ moves. All P moves.items) (sym w.moves-is) c.loop-one.invariant.0,
            (λ up. ap (λ moves. moves.items) w.moves-is ∙ c.loop-one.invariant.1 up
                ∙ sym (more None (sym (c.move_of.ensures.exact up) ∙ none) ∙ append-nil (filter_map h (take i xs)))),
          )
    ]
