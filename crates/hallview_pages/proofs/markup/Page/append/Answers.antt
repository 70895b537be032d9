use Rattle.std.proofs.{Common.{◌∙◌, sym, ap, subst, ◌++◌}, lemmas.List.Sums.fold-append}
use Rattle.hallview_pages.specs.{Markup.{after, step, IsPage}, MarkupLaws.joined}
use Rattle.hallview_pages.specs.declared.markup.Place.{Place, TheVariants.{Text}}
use Rattle.hallview_pages.proofs.markup.Page.append.Goals as goal

pub invariant_of-self-then-is_text : goal.invariant_of-self-then-is_text
invariant_of-self-then-is_text c =
    let before = c.self.inside.octets.items in
    let other = c.other.inside.octets.items in
    let ends = sym c.self.invariant.1 ∙ c.is_text.ensures c.if-is_text.true in
    let more = c.in_ok-extend_from_slice.ensures.items ∙ ap (λ octets. before ++ octets) c.as_slice.ensures.value in (
      subst IsPage (sym more) (joined c.self.invariant.0 ends c.other.invariant.0),
      c.other.invariant.1
          ∙ sym (ap (λ (at : Place). after at other) ends)
          ∙ sym (fold-append step Text before other)
          ∙ sym (ap (after Text) more),
    )
