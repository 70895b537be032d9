use Rattle.halls_file.proofs.PathLemmas.{folder_at}
use Rattle.halls_file.proofs.paths.folder_of.Goals as goal

pub returns-in-Some : goal.returns-in-Some
returns-in-Some c =
    let cut = c.in-Some.ensures.cases in
    rw cut.3 (folder_at c.args.file.now cut.0 cut.1 cut.2)
