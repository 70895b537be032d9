use Rattle.std.proofs.{Common.{◌∙◌, sym, ap, subst, ◌≡◌, ◌++◌}, lemmas.List.Sums.fold-append}
use Rattle.hallview_pages.specs.{Markup.{after, escape, step, IsPage, IsPage.text}, MarkupLaws.text_stays}
use Rattle.hallview_pages.specs.declared.markup.Place.{TheVariants.{Text, Tag}}
use Rattle.hallview_pages.proofs.markup.Page.push_text.Goals as goal

pub invariant_of-self-2 : goal.invariant_of-self-2
invariant_of-self-2 c =
    let before = c.self.inside.octets.items in
    let part = c.args.part.now in
    let place = c.self.invariant.1 in
    let outside = λ (is : after Text before ≡ Tag). c.is_tag.ensures c.if-is_tag.false (place ∙ is) in
    let more = c.in_ok-extend_from_slice.ensures.items ∙ ap (λ octets. before ++ octets) (c.as_slice.ensures.value ∙ c.in_ok-part.ensures) in (
      subst IsPage (sym more) (text before part c.self.invariant.0 outside),
      place
          ∙ sym (text_stays (after Text before) outside part)
          ∙ sym (fold-append step Text before (escape part))
          ∙ sym (ap (after Text) more),
    )
