-- From what was looked for to the hall that is held.
use Rattle.sql_schema.specs.{Words.{of_last, SpellHall, Database, State, IsLive, IsSound, lists_once, IsQueryText, Hall, find_numbers_query, hall_schema, IsHeld, find_is}, SchemaLaws.reads_plain, declared.creating.TheConstants.FIND_NUMBERS}
use Rattle.std.proofs.Common.{◌≡◌, pos, Ok, Err, Result, IfErr, OnOk, refl, sym, ap, subst, ◌∙◌}
use Rattle.sql_tables.{specs.{declared.{fault.OpenFault.{OpenFault, TheVariants.{NotAHall, OtherVersion, Unavailable}}, looking.Wanted.{Wanted, TheVariants.Second}}, Opening.{HasTables, IfSaid, IsAnswerFor, IsReady, SaysSchema, wanted_number, wanted_rows}}, proofs.LookLemmas.{all_compiled, one_schema}}

-- ---- a hall of the second schema

-- trees list one schema at most
pub schema_of : (db : Database) (h : Hall) → IsSound db.schema db.trees → SpellHall db.trees h → db.schema ≡ hall_schema
schema_of db h sound spelt = lists_once _ db.schema hall_schema sound.lists spelt.tables.sound.lists

has_all : HasTables Second hall_schema
has_all = all_compiled hall_schema (wanted_rows Second) reads_plain

module _ (db : Database) (h : Hall) (sound : IsSound db.schema db.trees) (spelt : SpellHall db.trees h) where
  pub says_second : SaysSchema db (pos 2)
  says_second = record { reads = subst (λ s. IsQueryText s FIND_NUMBERS.now find_numbers_query) (sym (schema_of db h sound spelt)) (find_is of_last); last = (_, _, _, (spelt.tables.each of_last)) }

  pub has_second : HasTables Second db.schema
  has_second = subst (HasTables Second) (sym (schema_of db h sound spelt)) has_all

-- tables that are looked for and are all there are refused as Unavailable alone
pub refused_as : (wanted : Wanted) (db : Database) (r : Result (Unit {0}) OpenFault) → SaysSchema db (wanted_number wanted) → HasTables wanted db.schema → IsAnswerFor wanted db r → IfErr r (λ e. e ≡ Unavailable)
refused_as wanted db (Ok done) says has told = tt
refused_as wanted db (Err NotAHall) says has told = absurd (told.told.1 says has)
refused_as wanted db (Err OtherVersion) says has told = absurd (told.told.2 (sym (one_schema db (wanted_number wanted) told.told.0 says told.told.1)))
refused_as wanted db (Err Unavailable) says has told = refl

-- ---- the connection after a look

-- what follows at Ok from what was said
pub on_said : {P Q : Type 0} (r : Result (Unit {0}) OpenFault) → IfSaid r P → (P → Q) → OnOk r Q
on_said (Ok done) p then = then p
on_said (Err e) p then = tt

-- where it's ready, the hall that the tables spell is held
pub held_ready : (old new : State) (h : Hall) → IsLive old → IsReady old new → SpellHall old.now.trees h → IsHeld new h
held_ready old new h live ready spelt = record {
  running = ready.is_open;
  schema = ap (λ (d : Database). d.schema) ready.same ∙ schema_of old.now h (live ready.was_open).0 spelt;
  spelt = subst (λ (d : Database). SpellHall d.trees h) (sym ready.same) spelt;
  kept = ready.flat;
  autocommit = ready.autocommit;
}
