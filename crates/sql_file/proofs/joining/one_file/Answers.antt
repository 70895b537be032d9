use Rattle.std.proofs.Common.{◌≡◌, List, ℕ, [], sym, subst, ◌∙◌}
use Rattle.sqlite_disk.specs.Memory.{memory_bytes}
use Rattle.sqlite_wal.specs.{PageSize.bytes_of, Recovery.{Pages, Recovers, pages_after}}
use Rattle.sql_file.proofs.JoinLemmas.{equal_ones}
use Rattle.sql_file.proofs.joining.one_file.Goals as goal

pub returns : goal.returns
returns c =
    let log = c.in_ok-files.files.log in
    let file = c.in_ok-files.files.db in
    let size = bytes_of c.in_ok-size.size in
    let one = memory_bytes c.in_ok-finished.field-0.db in
    equal_ones c.args.file.now c.args.log.now one (memory_bytes file) (memory_bytes log) c.in_ok-files.ensures.file c.in_ok-files.ensures.log (record {
      page_size = size;
      by_log = c.in_ok-size.ensures.by_log;
      by_file = c.in_ok-size.ensures.by_file;
      same =
          subst (λ (xs : List ℕ). (pages : Pages) → Recovers size (record { log = memory_bytes log; db = xs }) pages → pages_after size [] one 0 ≡ pages) c.in_ok-size.ensures.file
          (subst (λ (xs : List ℕ). (pages : Pages) → Recovers size (record { log = xs; db = memory_bytes c.named_size.new.files.db }) pages → pages_after size [] one 0 ≡ pages) c.in_ok-size.ensures.log
          c.in_ok-finished.ensures.pages);
    })
