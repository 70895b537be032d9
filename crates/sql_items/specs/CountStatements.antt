-- Statements on how many machines there are of each pool and status: each text, and what it is over the tables of a hall. RETURNING reads the parameters, NULL, and then the stored row with its rowid.
use Rattle.sqlite.specs.Listing.{understood}
use Rattle.sqlite_tied.specs.Compute.{everything}
use Rattle.sql_schema.specs.Words.{Update, Delete, parameter, cell, equals, rising, from_one, only, IsQueryText, IsCommandText, hall_schema}
use Rattle.std.proofs.Common.{refl, [], ◌∷◌}
use Rattle.sql_items.specs.declared.counts.TheConstants.{FIND_COUNT, SET_COUNT, REMOVE_COUNT}

-- the count of a pool and a status
pub find_count_is : IsQueryText hall_schema FIND_COUNT.now (from_one 19 (equals 1 0 ∷ equals 2 1 ∷ []) (cell 3 ∷ []) (rising 1 ∷ rising 2 ∷ []))
unfolding understood everything
find_count_is = record { names = _; is = refl; plain = (refl, refl); unlisted = refl }

-- the count of a pool and a status, changed
pub set_count_is : IsCommandText hall_schema SET_COUNT.now (Update 11 (only (from_one 19 (equals 1 0 ∷ equals 2 1 ∷ []) (cell 0 ∷ cell 0 ∷ cell 1 ∷ cell 2 ∷ parameter 2 ∷ []) [])))
unfolding understood everything
set_count_is = record { is = refl; plain = (refl, refl) }

-- the count of a pool and a status goes
pub remove_count_is : IsCommandText hall_schema REMOVE_COUNT.now (Delete 11 (only (from_one 19 (equals 1 0 ∷ equals 2 1 ∷ []) (cell 0 ∷ []) [])))
unfolding understood everything
remove_count_is = record { is = refl; plain = (refl, refl) }
