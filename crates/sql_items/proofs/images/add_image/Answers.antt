use Rattle.sql_schema.specs.{Words.{recursion_from_All, state, at, images}, StepLaws.{stays, writes}, TableStatements.with_item}
use Rattle.std.proofs.Common.{◌≡◌, None}
use Rattle.ipxe_script.specs.Word.{IsWord}
use Rattle.sql_items.proofs.{ImageLemmas.adds_image, WordLemmas.gives_back}
use Rattle.sql_items.proofs.images.add_image.Goals as goal

pub returns-in-Ok-clause-written : goal.returns-in-Ok-clause-written
returns-in-Ok-clause-written g c clean =
    let image = c.args.image.now in
    let given = rw (c.name_value.ensures, c.small_value.ensures, c.text_value.ensures, c.text_value-in-Ok.ensures, c.text_value-in-Ok-2.ensures, c.arch_number.ensures) at (c.write.ensures.written clean) in
    writes (state g.S.Store) (λ rows. at rows.hall.images image.name ≡ None) (λ rows. with_item images rows image) _ _ c.write.result
    (rw (c.name.ensures, c.arch.ensures, c.text.ensures.text, c.text-in-Ok.ensures.text, c.kernel.ensures, c.initrd.ensures, c.as_str.ensures.value, c.in-Ok.ensures, c.args-2.ensures.args) at given)
    (adds_image (state g.S.Store) image (gives_back image.args (recursion_from_All IsWord image.args c.is_image.ensures.words)))

pub returns-in-Err-clause-written : goal.returns-in-Err-clause-written
returns-in-Err-clause-written g c clean = stays (state g.S.Store c.args.tx.now.conn.now) _ _ tt
