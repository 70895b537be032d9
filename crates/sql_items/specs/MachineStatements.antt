-- Statements on machines and kinds of erasing: each text, and what it is over the tables of a hall. RETURNING reads the parameters, NULL, and then the stored row with its rowid.
use Rattle.sqlite.specs.Listing.{understood}
use Rattle.sqlite_tied.specs.Compute.{everything}
use Rattle.sql_schema.specs.{TableStatements.{shows_query, remove_command}, Queries.first_from, Words.{machines, wipes, Query, Update, Values, parameter, cell, equals, at_most, rising, from_one, only, IsQueryText, IsCommandText, IsReturningText, hall_schema}}
use Rattle.std.proofs.Common.{refl, [], ◌∷◌, ◌+◌, codes, drop, length}
use Rattle.sql_items.specs.declared.{finding.TheConstants.{FIND_UUID, FIND_MACHINE_WITH_IMAGE}, machines.TheConstants.{FIND_EXPIRED, SET_MACHINE, REMOVE_MACHINE}, wipes.TheConstants.{LIST_WIPES, REMOVE_WIPE}}

-- the machines with a UUID
pub find_uuid_is : IsQueryText hall_schema FIND_UUID.now (from_one 11 (equals 3 0 ∷ []) (cell 0 ∷ []) (rising 0 ∷ []))
unfolding understood everything
find_uuid_is = record { names = _; is = refl; plain = (refl, refl); unlisted = refl }

-- the first machine that has an image
pub find_machine_with_image_is : IsQueryText hall_schema FIND_MACHINE_WITH_IMAGE.now (first_from 11 (equals 7 0 ∷ []) (cell 0 ∷ []) (rising 0 ∷ []))
unfolding understood everything
find_machine_with_image_is = record { names = _; is = refl; plain = (refl, refl); unlisted = refl }

-- the machine whose deadline comes first, at most at a moment
abbrev pub find_expired_query : Query
find_expired_query = first_from 11 (at_most 12 0 ∷ []) machines.shown (rising 12 ∷ rising 0 ∷ [])

pub find_expired_is : IsQueryText hall_schema FIND_EXPIRED.now find_expired_query
unfolding understood everything
find_expired_is = record { names = _; is = refl; plain = (refl, refl); unlisted = refl }

-- a machine, changed where it still has a version, which is the parameter after those of its row
pub set_machine_is : IsReturningText hall_schema SET_MACHINE.now (Update 6 (only (from_one 11 (equals 0 0 ∷ equals 11 (length machines.shown) ∷ []) (cell 0 ∷ cell 0 ∷ drop 1 machines.given) []))) (record { names = codes "version" ∷ []; row = Values (parameter (13 + length machines.shown) ∷ []) 1 })
unfolding understood everything
set_machine_is = record { is = refl; returning = refl; untimed = refl }

-- the machine with a number goes
pub remove_machine_is : IsCommandText hall_schema REMOVE_MACHINE.now (remove_command machines machines.matches)
unfolding understood everything
remove_machine_is = record { is = refl; plain = (refl, refl) }

-- how the disks of all machines are erased
pub list_wipes_is : IsQueryText hall_schema LIST_WIPES.now (shows_query wipes [] wipes.by_key)
unfolding understood everything
list_wipes_is = record { names = _; is = refl; plain = (refl, refl); unlisted = refl }

-- the disks of the machine with a number are erased no more
pub remove_wipe_is : IsCommandText hall_schema REMOVE_WIPE.now (remove_command wipes wipes.matches)
unfolding understood everything
remove_wipe_is = record { is = refl; plain = (refl, refl) }
