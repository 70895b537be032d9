-- What making a store over a connection answers, and what it hands back.
use Rattle.sql_schema.specs.Words.{Held}
use Rattle.std.specs.Prelude.{Result, Ok, Err}
use Rattle.hall_sql.specs.{Store.connection, declared.{opening.Refused.Refused, store.SqlStore.SqlStore}}
use Rattle.sql_tables.specs.declared.migrating.Migrated.{Migrated}

-- the connection, in the store or beside the fault
abbrev pub connection_of : {S F : Type 0} → Result (SqlStore S) (Refused S F) → Held S
connection_of (Ok store) = connection store
connection_of (Err refused) = refused.connection

-- the answer without the connection
abbrev pub outcome : {S F : Type 0} → Result (SqlStore S) (Refused S F) → Result (Unit {0}) F
outcome (Ok store) = Ok tt
outcome (Err refused) = Err refused.fault

-- the connection after a migration
abbrev pub connection_after : {S F : Type 0} → Result (SqlStore S × Migrated) (Refused S F) → Held S
connection_after (Ok done) = connection done.0
connection_after (Err refused) = refused.connection

-- the answer of a migration without the connection
abbrev pub migration_of : {S F : Type 0} → Result (SqlStore S × Migrated) (Refused S F) → Result Migrated F
migration_of (Ok done) = Ok done.1
migration_of (Err refused) = Err refused.fault
