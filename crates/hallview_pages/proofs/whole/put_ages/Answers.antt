use Rattle.std.proofs.{Common.{List, All, take, subst, ap, length, get_or, ◌∙◌, ◌<◌, ◌≤◌}, lemmas.List.{Elements.{All-more}, take_all}}
use Rattle.hallview_state.specs.declared.hall.Hall.{Hall}
use Rattle.hallview_pages.specs.{Ages.{Told}, AgesLaws.{all_told_more}}
use Rattle.hallview_pages.proofs.whole.put_ages.Goals as goal

pub loop-hall-preserved : goal.loop-hall-preserved
loop-hall-preserved c =
    let halls = c.args.state.now.halls.items in
    let items = c.as_slice-hall-items.ensures.value in
    let index = c.loop-hall.hall-index in
    let one = c.hall-item.result in
    let now = c.args.now in
    let page = c.put_age.new.page in
    let within = subst (λ (halls : List Hall). index < length halls) items c.loop-hall-test.true in
    let is = c.hall-item.is ∙ ap (λ (halls : List Hall). get_or halls index one) items in
    All-more (Told now page) halls index one within
    (all_told_more now c.loop-hall.page page c.in_ok-put_age.ensures.grows (take index halls) c.loop-hall.invariant)
    (subst (Told now page) is c.in_ok-put_age.ensures.told)

pub returns : goal.returns
returns c =
    let halls = c.args.state.now.halls.items in
    let index = c.loop-hall.hall-index in
    let all = subst (λ (halls : List Hall). length halls ≤ index) c.as_slice-hall-items.ensures.value c.loop-hall-test.false in
    subst (All (Told c.args.now c.loop-hall.page)) (take_all index halls all) c.loop-hall.invariant
