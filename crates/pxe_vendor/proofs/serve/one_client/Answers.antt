use Rattle.pxe_vendor.proofs.ClientLemmas.{client_of-from_IsClient, IsClient-from_client_of, IsClient-one}
use Rattle.pxe_vendor.proofs.serve.one_client.Goals as goal

pub returns-clause-exact : goal.returns-clause-exact
returns-clause-exact c = λ message client. (client_of-from_IsClient message client, IsClient-from_client_of message client)

pub returns-clause-one : goal.returns-clause-one
returns-clause-one c = IsClient-one
