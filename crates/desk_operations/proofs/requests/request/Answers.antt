use Rattle.desk_operations.{specs.Prelude.{site_of, store_of}, proofs.RequestLemmas.{ended_settled, failed_ends}}
use Rattle.desk_operations.proofs.requests.request.Goals as goal

pub returns-in-ReadFailed-clause-settled : goal.returns-in-ReadFailed-clause-settled
returns-in-ReadFailed-clause-settled g c = λ clean.
    ended_settled g.S.HallStore (store_of c.args.desk.now) (store_of c.serve_one.new.self) (site_of c.args.desk.now) c.args.moment c.args.fresh _ _ c.serve_one.result _ _
    (failed_ends c.serve_one.result c.in-ReadFailed.is) (c.serve_one.ensures.settled clean)
