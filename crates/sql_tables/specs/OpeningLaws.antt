-- A file whose table `hall` names no schema: it's answered that it is no hall's, or that it can't be said.
use Rattle.sql_schema.specs.Words.{Database}
use Rattle.std.proofs.Common.{◌≡◌, ◌⊎◌, inl, inr, pos, Ok, Err, Result, refl}
use Rattle.sql_tables.specs.{declared.{fault.OpenFault.{OpenFault, TheVariants.{NotAHall, OtherVersion, Unavailable}}, looking.Wanted.Wanted, migrating.Migrated.{Migrated, TheVariants.{Already, Now}}}, Migrating.{IsRightMigration, TellsMigrated}, Opening.{IsAnswerFor, NamesNoSchema, wanted_number}}

pub no_hall : (wanted : Wanted) (db : Database) (r : Result (Unit {0}) OpenFault) → IsAnswerFor wanted db r → NamesNoSchema db → (r ≡ Err NotAHall) ⊎ (r ≡ Err Unavailable)
no_hall wanted db (Ok done) answer none = absurd (none (wanted_number wanted) answer.told.0)
no_hall wanted db (Err NotAHall) answer none = inl refl
no_hall wanted db (Err OtherVersion) answer none = absurd (none answer.told.0 answer.told.1)
no_hall wanted db (Err Unavailable) answer none = inr refl

pub no_hall_to_migrate : (db : Database) (r : Result Migrated OpenFault) → IsRightMigration db r → NamesNoSchema db → (r ≡ Err NotAHall) ⊎ (r ≡ Err Unavailable)
no_hall_to_migrate db r right = by r right.told
  where
    by : (s : Result Migrated OpenFault) → TellsMigrated db s → NamesNoSchema db → (s ≡ Err NotAHall) ⊎ (s ≡ Err Unavailable)
    by (Ok Now) told none = absurd (none (pos 1) told.0.told.0)
    by (Ok Already) told none = absurd (none (pos 2) told.told.0)
    by (Err NotAHall) told none = inl refl
    by (Err OtherVersion) told none = absurd (none told.0.told.0 told.0.told.1)
    by (Err Unavailable) told none = inr refl
