use Rattle.std.proofs.{Common.{◌∙◌, arith, sym}, lemmas.Bool.eqb-true}
use Rattle.serve_sockets.{specs.Ring.ready_of, proofs.MarksLemmas.all_clear}
use Rattle.serve_sockets.proofs.ring.Ring.is_idle.Goals as goal

-- none is counted
pub returns : goal.returns
returns c = λ idle. all_clear (ready_of c.args.self.now) 1027 (omega arith) (sym c.args.self.now.all ∙ eqb-true c.args.self.now.total 0 idle)
