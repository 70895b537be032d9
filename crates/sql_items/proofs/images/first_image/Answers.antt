use Rattle.std.proofs.Common.{sym, ap, ◌∙◌, slice_get}
use Rattle.sql_items.proofs.ImageLemmas.{same_image, first_image_is}
use Rattle.sql_items.proofs.images.first_image.Goals as goal

pub returns-in_ok-image_of-in-Some : goal.returns-in_ok-image_of-in-Some
returns-in_ok-image_of-in-Some c =
    let row = c.in-Some.row.now in
    let image = c.in_ok-image_of-in-Some.field-0 in
    let read = c.in_ok-image_of-in-Some.ensures in
    first_image_is c.args.rows.now.items row image (ap (λ l. slice_get l 0) (sym c.deref.ensures.value) ∙ sym c.in-Some.ensures.value)
    (λ i words is. same_image row i image words is read.name read.arch read.kernel read.initrd read.args)
