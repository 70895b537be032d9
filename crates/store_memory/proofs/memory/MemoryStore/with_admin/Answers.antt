use Rattle.std.{proofs.Common.refl, specs.Ordering.nat_cmp}
use Rattle.hall_types.specs.Rows.{numbers, pairs, texts}
use Rattle.store_memory.{specs.{Prelude.{default_pool, second}, Held.{as_pair, itself, pair_cmp, text_cmp}}, proofs.{NewLemmas.{new_count, new_earliest, new_index, none_found}, TableLemmas.{by_text, empty_table, sole_row}}}
use Rattle.store_memory.proofs.memory.MemoryStore.with_admin.Goals as goal

pub returns : goal.returns
returns c = record {
  schema = refl;
  keyed = c.rows_stand_under_their_keys.ensures.new second c.args.admin c.args.digest;
  operators = sole_row by_text c.args.admin _ c.in_ok-operators.ensures;
  pools = sole_row by_text default_pool (record { name = default_pool }) (rw c.default_pool-name.ensures at c.in_ok-pools.ensures);
  members = empty_table pair_cmp pairs as_pair c.new.result c.new.ensures.empty;
  images = empty_table text_cmp texts itself c.new-2.result c.new-2.ensures.empty;
  lives = empty_table nat_cmp numbers itself c.new-3.result c.new-3.ensures.empty;
  machines = empty_table nat_cmp numbers itself c.new-4.result c.new-4.ensures.empty;
  interfaces = empty_table text_cmp texts itself c.new-5.result c.new-5.ensures.empty;
  boots = empty_table nat_cmp numbers itself c.new-6.result c.new-6.ensures.empty;
  orders = empty_table nat_cmp numbers itself c.new-7.result c.new-7.ensures.empty;
  receipts = empty_table pair_cmp pairs as_pair c.new-8.result c.new-8.ensures.empty;
  last = refl;
  addresses = none_found c.new-9.result c.new-9.ensures.empty;
  uuids = new_index c.new-10.result c.new-10.ensures.empty;
  count = new_count;
  earliest = new_earliest _;
}
