use Rattle.std.proofs.Common.{true}
use Rattle.hall_types.{specs.{Hall.default_pool, declared.kinds.Role.TheVariants.Admin}, proofs.WriteLemmas.is_sole}
use Rattle.hall_types.proofs.laws.new_hall_is_bare.Goals as goal

pub returns-clause-admin : goal.returns-clause-admin
returns-clause-admin c = λ schema admin digest. is_sole admin (record { name = admin; role = Admin; digest = digest; enabled = true })

pub returns-clause-pool : goal.returns-clause-pool
returns-clause-pool c = λ schema admin digest. is_sole default_pool (record { name = default_pool })
