use Rattle.std.proofs.Common.{[], ◌++◌, ◌∙◌, sym, append-nil}
use Rattle.hallview_pages.specs.Markup.{escape}
use Rattle.hallview_pages.proofs.whole.put_text.Goals as goal

pub returns-then-branch-clause-shows : goal.returns-then-branch-clause-shows
returns-then-branch-clause-shows c =
    let before = c.args.page.now in
    (before, [], c.in_ok-push_text.ensures.text c.if-branch.true ∙ sym (append-nil (before ++ escape c.args.text.now)))
