-- Whether further octets can change what a request asks for.
use Rattle.std.specs.Prelude.{◌≤◌, ◌⊎◌, ℕ, List, ◌++◌, map, length, Result, IfOk}
use Rattle.hall_http.specs.{Prelude.{RequestHead, ReadsRequest, NeverHasRequest, EndsInTarget, name_and_value, Event}, declared.fault.HttpFault.HttpFault, Demand.{demand_of, body_size}, Fields.FieldPair, Head.HasNoHead, Request.{front, after_head, IsEvent}}

-- each event or fault of the octets is that of them with any octets after them
abbrev pub IsDecided : List ℕ → Type 0
IsDecided octets = (more : List ℕ) (result : Result Event HttpFault) → IsEvent octets result → IsEvent (octets ++ more) result

-- the head is refused, or all of the body follows it
abbrev pub IsReady : List ℕ → List ℕ → List FieldPair → List ℕ → Type 0
IsReady method target fields after = IfOk (demand_of method target fields) (λ demand. body_size demand ≤ length after)

-- a complete head, which is refused or has all of its body
pub record IsWhole (octets : List ℕ) : Type 0 where
  pub head : RequestHead
  pub rest : List ℕ
  pub reads : ReadsRequest (front octets) head rest
  pub few : length head.fields ≤ 64
  pub ready : IsReady head.method head.target (map name_and_value head.fields) (after_head head octets)

-- no octets can complete a head, and that for another cause than a target that hasn't ended
pub record IsMalformed (octets : List ℕ) : Type 0 where
  pub never : NeverHasRequest (front octets)
  pub target : ¬ (EndsInTarget (front octets))

-- 8,192 octets without a complete head
pub record IsTooLong (octets : List ℕ) : Type 0 where
  pub full : 8192 ≤ length octets
  pub headless : HasNoHead (front octets) 64

-- where reading must stop
abbrev pub Ends : List ℕ → Type 0
Ends octets = IsWhole octets ⊎ (IsMalformed octets ⊎ IsTooLong octets)
