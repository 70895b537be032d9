use Rattle.std.{proofs.Common.{◌≡◌, ◌∙◌, ◌++◌, ap, refl, subst, sym, List}, specs.{Prelude.{filter_map, fold}, List.Sorted.{IsNonDecreasingBy}}}
use Rattle.hallview_state.specs.{Moves.move_of, Taken.{machines_of, moves_to, newest}, Ways.counted, declared.{listed.Listed.{Listed}, moves.Move.{Move}}}
use Rattle.hallview_state.proofs.ListLemmas.{rises}
use Rattle.hallview_state.proofs.hall.Hall.set_list.Goals as goal

pub returns-clause-follows : goal.returns-clause-follows
returns-clause-follows c =
    let hall = c.args.self.now in
    let before = c.machines.result.now in
    let shown : before ≡ machines_of hall = c.machines.ensures in
    let up = subst (IsNonDecreasingBy (λ one. one.machine.id)) (sym shown) (rises hall.list) in
    let moved : c.in_ok-moves.moves.items ≡ moves_to hall c.args.list.machines.items c.args.list.at =
    c.in_ok-moves.ensures.all up ∙ ap (filter_map (move_of before c.args.list.at)) c.as_slice-machines.ensures.value
    ∙ ap (λ (was : List Listed). filter_map (move_of was c.args.list.at) c.args.list.machines.items) shown in
    record {
      hall = record { name = refl; desk = refl; every = refl };
      list = (_, refl, refl, refl, refl);
      up = refl;
      moves = c.keep_newest.ensures
          ∙ ap newest (c.in_ok-extend_from_slice.ensures.items ∙ ap (λ (more : List Move). hall.moves.items ++ more) (c.as_slice-2.ensures.value ∙ moved));
      ways = c.add_all.ensures ∙ ap (fold counted hall.ways) (c.as_slice-3.ensures.value ∙ moved);
    }
