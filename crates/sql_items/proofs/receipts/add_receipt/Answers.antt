use Rattle.sql_schema.specs.StepLaws.{writes}
use Rattle.sql_items.specs.TableLaws.{adds_receipt}
use Rattle.sql_items.proofs.receipts.add_receipt.Goals as goal

pub returns-clause-written : goal.returns-clause-written
returns-clause-written g c clean =
    writes _ _ _ _ _ c.write.result (c.write.ensures.written clean)
    (rw (c.name_value.ensures, c.octets_value.ensures, c.text_value.ensures, c.text_value-2.ensures, c.number_value.ensures)
    (rw (c.octets-key.ensures.octets, c.from.ensures, c.as_str.ensures, c.as_str-2.ensures) (adds_receipt _ c.args.receipt.now)))
