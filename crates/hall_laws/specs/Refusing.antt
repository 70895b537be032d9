-- Answers that refuse.
use Rattle.std.specs.Prelude.{◌≡◌}
use Rattle.hall_laws.specs.Prelude.{Refusal, Content, refused}

-- the answer refuses for some cause
abbrev pub IsRefusal : Content → Type 0
IsRefusal content = (refusal : Refusal) × (content ≡ refused refusal)
