use Rattle.std.proofs.Common.{◌∙◌, refl}
use Rattle.sqlite_wal.{proofs.RecoveryLemmas.recovers_once, specs.Log.{image, state}}
use Rattle.sql_file.proofs.JoinLemmas.{pages_left, on_both, and_true}
use Rattle.sql_file.proofs.joining.moved.Goals as goal

pub returns : goal.returns
returns c = record {
  pages =
      on_both c.finish.result c.finish.ensures.open c.finish.ensures.empty (λ ready empty pages h.
      let after = c.finish.new.self in
      let stays = c.finish.ensures.same ready in
      pages_left c.args.log.now.page_size after.page_size after.durable.frames after.index after.log.bytes.items after.db.bytes.items (state c.recover.new.self).committed pages
      empty
      (stays.keeps.stays.size ∙ c.in_ok-recover.ensures.size)
      (stays.keeps.committed (and_true after.is_open ready))
      (recovers_once c.args.log.now.page_size (image c.args.log.now) (state c.recover.new.self).committed pages (c.in_ok-recover.ensures.found refl) h));
}
