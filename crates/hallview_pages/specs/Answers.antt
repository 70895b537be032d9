-- What answers promise, by their kinds.
use Rattle.std.specs.Prelude.{ℕ, List, ⊤}
use Rattle.hallview_state.specs.declared.state.State.{State}
use Rattle.hallview_state.specs.Told.{AreMetrics}
use Rattle.hallview_pages.specs.{Ages.TellsAges, Markup.IsPage, declared.answer.{Answer.{Answer}, Kind.{Kind, TheVariants.{Html, Prometheus, OpenMetrics, Json, Text}}}}

-- a page is markup and texts, and says of each hall whose list is old how old that is; metrics are read back, with what they tell of each hall
abbrev pub IsRightBody : State → ℕ → Kind → List ℕ → Type 0
IsRightBody state now Html body = IsPage body × TellsAges state now body
IsRightBody state now Prometheus body = AreMetrics state now body
IsRightBody state now OpenMetrics body = AreMetrics state now body
IsRightBody state now Json body = ⊤
IsRightBody state now Text body = ⊤

abbrev pub IsRight : State → ℕ → Answer → Type 0
IsRight state now answer = IsRightBody state now answer.kind answer.body.items
