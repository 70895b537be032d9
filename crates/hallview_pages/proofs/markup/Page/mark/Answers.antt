use Rattle.std.proofs.{Common.{◌∙◌, sym, ap, subst}, lemmas.List.Sums.fold-append}
use Rattle.hallview_pages.specs.Markup.{after, step, IsPage, IsPage.markup}
use Rattle.hallview_pages.specs.declared.markup.Place.{Place, TheVariants.{Text}}
use Rattle.hallview_pages.proofs.markup.Page.mark.Goals as goal

pub invariant_of-self-2 : goal.invariant_of-self-2
invariant_of-self-2 c =
    let before = c.self.inside.octets.items in
    let part = c.as_bytes-part.result.now in
    let more = c.in_ok-extend_from_slice.ensures.items in (
      subst IsPage (sym more) (markup before part c.self.invariant.0),
      c.after-self-inside.ensures
          ∙ ap (λ (at : Place). after at part) c.self.invariant.1
          ∙ sym (fold-append step Text before part)
          ∙ sym (ap (after Text) more),
    )
