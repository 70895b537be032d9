use Rattle.std.proofs.Common.{List, ℕ, All, subst, sym}
use Rattle.hallview_pages.specs.{Ages.{Told}, AgesLaws.{all_told_more}}
use Rattle.hallview_pages.proofs.whole.whole_page.Goals as goal

pub returns-clause-ages : goal.returns-clause-ages
returns-clause-ages c =
    let halls = c.args.state.now.halls.items in
    let now = c.args.now in
    let told = all_told_more now c.put_ages.new.page c.append.new.self c.in_ok-append.ensures halls c.in_ok-put_ages.ensures in
    let all = all_told_more now c.append.new.self c.put_end.new.page c.in_ok-put_end.ensures halls told in
    subst (λ (octets : List ℕ). All (Told now octets) halls) (sym c.in_ok-into_octets.ensures.octets) all
