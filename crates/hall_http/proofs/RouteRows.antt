-- What targets name, by examples.
use Rattle.std.{proofs.Common.{◌≡◌, Some, None, refl}, specs.Prelude.codes}
use Rattle.matchit.proofs.OnLiterals.{matchit_on_literals}
use Rattle.hall_http.specs.{declared.resource.Resource.TheVariants.{Script, Report, Orders, Order, Machines, Machine, Commands}, Resource.{routes, resource_of}}

script : resource_of (codes "/ipxe/52:54:00:12:34:56") ≡ Some Script
unfolding matchit_on_literals routes
script = refl

report : resource_of (codes "/report/1/00") ≡ Some Report
unfolding matchit_on_literals routes
report = refl

orders : resource_of (codes "/orders") ≡ Some Orders
unfolding matchit_on_literals routes
orders = refl

order : resource_of (codes "/orders/1") ≡ Some Order
unfolding matchit_on_literals routes
order = refl

machines : resource_of (codes "/machines") ≡ Some Machines
unfolding matchit_on_literals routes
machines = refl

machine : resource_of (codes "/machines/1?x") ≡ Some Machine
unfolding matchit_on_literals routes
machine = refl

commands : resource_of (codes "/commands") ≡ Some Commands
unfolding matchit_on_literals routes
commands = refl

nowhere : resource_of (codes "/nowhere") ≡ None
unfolding matchit_on_literals routes
nowhere = refl

query : resource_of (codes "/machines?x") ≡ None
unfolding matchit_on_literals routes
query = refl

no_number : resource_of (codes "/machines/") ≡ None
unfolding matchit_on_literals routes
no_number = refl
