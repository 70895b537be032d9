use Rattle.sqlite_wal.specs.PageSize.{bytes_of}
use Rattle.sql_file.proofs.JoinLemmas.{stands}
use Rattle.sql_file.proofs.joining.finished.Goals as goal

pub returns-in-Ok-moved : goal.returns-in-Ok-moved
returns-in-Ok-moved c =
    let held = c.in-Ok.log in
    let left = c.moved.new.log in
    record {
      pages =
          stands (bytes_of c.args.size) held.page_size (c.args.files.log, c.args.files.db) (held.log, held.db) (left.log, left.db) (c.into_files.result.log, c.into_files.result.db)
          c.in-Ok.ensures.size c.in-Ok.ensures.files c.into_files.ensures c.in-Ok-moved.ensures.pages;
    }
