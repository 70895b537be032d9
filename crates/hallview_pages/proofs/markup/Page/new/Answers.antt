use Rattle.std.proofs.Common.{sym, ap, subst}
use Rattle.hallview_pages.specs.Markup.{after, IsPage, IsPage.empty}
use Rattle.hallview_pages.specs.declared.markup.Place.TheVariants.{Text}
use Rattle.hallview_pages.proofs.markup.Page.new.Goals as goal

pub invariant_of-result : goal.invariant_of-result
invariant_of-result c = (subst IsPage (sym c.new.ensures.items) empty, sym (ap (after Text) c.new.ensures.items))
