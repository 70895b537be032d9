use Rattle.std.proofs.{Common.{rules, ◌≤◌, length, Result, Ok, Err, OnErr}, lemmas.List.drop_all}
use Rattle.hallboot_tasks.proofs.random_block.RandomBlock.fill.Goals as goal

on_err : {T E : Type 0} (r : Result T E) (P : Type 0) → P → OnErr r P
on_err (Ok value) P it = tt
on_err (Err error) P it = it

pub returns-in_err-try_fill_bytes-clause-none : goal.returns-in_err-try_fill_bytes-clause-none
returns-in_err-try_fill_bytes-clause-none g c =
    let short : length c.try_fill_bytes.new.dst ≤ 4096 = search rules in
    on_err c.from_residual.result _ (drop_all 4096 c.try_fill_bytes.new.dst short)
