use Rattle.sql_schema.specs.{Words.{state, lives}, TableStatements.with_item}
use Rattle.sql_items.specs.LiveLaws.{puts_live}
use Rattle.sql_items.proofs.lives.put_live.Goals as goal

pub returns-clause-written : goal.returns-clause-written
returns-clause-written g c clean =
    c.put.ensures.written clean (λ rows. with_item lives rows c.args.live.now) (rw (c.small_value.ensures, c.name_value.ensures, c.arch_number.ensures) (puts_live (state g.S.Store) c.args.live.now))
