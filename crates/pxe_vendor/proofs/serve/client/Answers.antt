use Rattle.pxe_vendor.proofs.ClientLemmas.{IfOk-Answers, Answers-only}
use Rattle.pxe_vendor.proofs.serve.client.Goals as goal

pub returns-clause-client : goal.returns-clause-client
returns-clause-client c = IfOk-Answers c.args.frame.now c.client_inner.result c.client_inner.ensures

pub returns-clause-only : goal.returns-clause-only
returns-clause-only c = λ client is. Answers-only c.args.frame.now c.client_inner.result client c.client_inner.ensures is
