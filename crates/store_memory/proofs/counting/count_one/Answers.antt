use Rattle.std.{proofs.{Common.{◌≡◌, ◌+◌, arith, ap, ◌∙◌}, lemmas.Result.on_ok_weaker}, specs.BTreeMap.get}
use Rattle.store_memory.{specs.Counted.{counted_in, key_cmp, machines_in}, proofs.CountLemmas.{entries_after, more_after}}
use Rattle.store_memory.proofs.counting.count_one.Goals as goal

one_more : (c : goal.After-put_count) → c.saturating_add-machines.result ≡ counted_in c.args.counts.now c.args.machine.now.pool c.args.machine.now.status + 1
one_more c =
    let m = c.args.machine.now in
    let was : c.count_at.result ≡ counted_in c.args.counts.now m.pool m.status = c.count_at.ensures ∙ ap (λ k. machines_in (get key_cmp c.args.counts.now (m.pool, k))) c.number.ensures.number in
    let few = c.requires.few m.pool m.status in
    omega (arith, c.saturating_add-machines.ensures, was, few)

pub returns-clause-entries : goal.returns-clause-entries
returns-clause-entries c =
    on_ok_weaker c.put_count.result
    (λ put. let more = one_more c in entries_after c.args.counts.now c.put_count.new.counts c.args.machine.now c.saturating_add-machines.result put (omega (arith, more)) c.requires.are_entries)
    c.put_count.ensures.put

pub returns-clause-more : goal.returns-clause-more
returns-clause-more c =
    on_ok_weaker c.put_count.result
    (λ put. more_after c.args.counts.now c.put_count.new.counts c.args.machine.now c.saturating_add-machines.result put (one_more c))
    c.put_count.ensures.put
