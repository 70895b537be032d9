use Rattle.hall_types.specs.KeyedLaws.{keyed-new_hall, keyed-written}
use Rattle.hall_types.proofs.laws.rows_stand_under_their_keys.Goals as goal

pub returns : goal.returns
returns c = record { new = keyed-new_hall; written = keyed-written }
