use Rattle.std.proofs.{Common.{sym, ◌∙◌}, lemmas.Result.IfOk-weaker}
use Rattle.halls_file.specs.Paths.{absolute, alone, in_folder}
use Rattle.halls_file.proofs.paths.beside.Goals as goal

pub returns-then-is_absolute : goal.returns-then-is_absolute
returns-then-is_absolute c = IfOk-weaker c.from_str.result _ _ (λ full same. rw same (absolute (sym c.is_absolute.ensures ∙ c.if-is_absolute.true))) c.from_str.ensures.ok

pub returns-in-Some : goal.returns-in-Some
returns-in-Some c = IfOk-weaker c.joined.result _ _ (λ full same. rw same (in_folder c.in-Some.folder.now (sym c.is_absolute.ensures ∙ c.if-is_absolute.false) c.in-Some.ensures)) c.joined.ensures

pub returns-in-None : goal.returns-in-None
returns-in-None c = IfOk-weaker c.from_str-in-None.result _ _ (λ full same. rw same (alone c.in-None.ensures)) c.from_str-in-None.ensures.ok
