-- Every row of a hall stands under its own key.
use Rattle.std.specs.Prelude.{◌≡◌, Some}
use Rattle.hall_types.specs.{Kinds.arch_number, Rows.{Keys, Rows, at}, Hall.{Hall, pair}, Image.BootImage}

-- each of these rows stands under its own key
abbrev pub StandUnder : {K X : Type 0} {keys : Keys K} → (X → K) → Rows keys X → Type 0
StandUnder {K = K} {X = X} key_of rows = (key : K) (row : X) → at rows key ≡ Some row → key_of row ≡ key

-- operators, pools and images stand under their names, members under pool and operator, live images under their
-- architecture's number, interfaces under their addresses, machines, boots and orders under their numbers, receipts
-- under operator and request key
pub record IsKeyed (h : Hall) : Type 0 where
  pub operators : StandUnder (λ o. o.name) h.operators
  pub pools : StandUnder (λ p. p.name) h.pools
  pub members : StandUnder (λ m. pair m.pool m.operator) h.members
  pub images : StandUnder (λ (i : BootImage). i.name) h.images
  pub lives : StandUnder (λ l. arch_number l.arch) h.lives
  pub machines : StandUnder (λ m. m.id) h.machines
  pub interfaces : StandUnder (λ i. i.mac) h.interfaces
  pub boots : StandUnder (λ b. b.number) h.boots
  pub orders : StandUnder (λ o. o.number) h.orders
  pub receipts : StandUnder (λ r. pair r.operator r.key) h.receipts
