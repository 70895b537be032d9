-- The steps of joining the values of one code.
use Rattle.dhcp_frame.{specs.ValueLaws.{joined_then-absent, joined_then-nothing, joined_then-more}, proofs.AreaLemmas.{value_of-same, value_of-other}}

pub ruleset value_steps = (value_of-same, value_of-other, joined_then-absent, joined_then-nothing, joined_then-more)
