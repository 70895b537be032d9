use Rattle.std.proofs.{Common.{◌≤◌, ℕ, List, length, sym, subst, ◌∙◌}, lemmas.Result.IfOk-weaker}
use Rattle.pxe_vendor.proofs.FileLemmas.{IsNamed, IsNamed-loader_file, length-loader_file}
use Rattle.pxe_vendor.proofs.file.boot_file.Goals as goal

pub returns-else-client-clause-named : goal.returns-else-client-clause-named
returns-else-client-clause-named c =
    IfOk-weaker c.from_str.result _ _
    (λ file is. subst (λ (x : List ℕ). IsNamed x) (sym (is ∙ c.loader_file.ensures)) (IsNamed-loader_file c.args.client.now.arch))
    c.from_str.ensures.ok

pub returns-else-client-clause-short : goal.returns-else-client-clause-short
returns-else-client-clause-short c =
    IfOk-weaker c.from_str.result _ _
    (λ file is. subst (λ (x : List ℕ). length x ≤ 127) (sym (is ∙ c.loader_file.ensures)) (length-loader_file c.args.client.now.arch))
    c.from_str.ensures.ok
