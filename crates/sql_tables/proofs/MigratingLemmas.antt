-- What is answered of tables that are to be carried over.
use Rattle.sql_schema.specs.{Words.{AllByRecursion, is_used, Database, State, HasCleanDisk, IsLive, Survives, IsPlain, IsSound, lists_once, Hall, IsHeld, find_numbers_query, SpellHall, IsQueryText}, declared.creating.TheConstants.FIND_NUMBERS}
use Rattle.std.proofs.Common.{◌≡◌, ◌≢◌, inl, inr, pos, true, false, Ok, Err, Result, OnOk, IfErr, IsTrue, refl, sym, ap, subst, ◌∙◌, true≢false, codes}
use Rattle.sqlite.specs.Listing.{understood}
use Rattle.sqlite_schema.specs.Names.{same_name}
use Rattle.sqlite_tied.specs.Compute.{everything}
use Rattle.sql_tables.{specs.{Creating.{IsMade, MayLeaveBesides}, Indexes.{all_indexes, indexes_of}, Migrating.{BecomeHall, IsCarriedOver, IsFirst, IsRightMigration, TellsMigrated, SpellFirst, first_schema}, Opening.{HasTables, IsAnswerFor, IsReady, IsRightAnswer, SaysSchema, first_rows}, declared.{fault.OpenFault.{OpenFault, TheVariants.{NotAHall, OtherVersion, Unavailable}}, looking.Wanted.TheVariants.First, migrating.Migrated.Migrated}}, proofs.{LookLemmas.{all_compiled, one_schema}, OpenLemmas.{has_second, says_second}}}

-- ---- a hall of the first schema

-- its texts are understood over it
plain_first : AllByRecursion (λ sql. IsPlain (understood first_schema sql)) first_rows
unfolding understood everything
plain_first = ((refl, refl), ((refl, refl), ((refl, refl), ((refl, refl), ((refl, refl), ((refl, refl), ((refl, refl), ((refl, refl), ((refl, refl), ((refl, refl), ((refl, refl), tt)))))))))))

find_numbers_is_first : IsQueryText first_schema FIND_NUMBERS.now find_numbers_query
unfolding understood everything
find_numbers_is_first = record { names = _; is = refl; plain = (refl, refl); unlisted = refl }

wipes_free : is_used first_schema (codes "wipes") ≡ false
unfolding same_name
wipes_free = refl

pub first_indexed : indexes_of first_schema ≡ all_indexes
unfolding same_name
first_indexed = refl

-- trees list one schema at most
first_schema_of : (db : Database) (h : Hall) → IsSound db.schema db.trees → SpellFirst db.trees h → db.schema ≡ first_schema
first_schema_of db h sound spelt = lists_once _ db.schema first_schema sound.lists spelt.sound.lists

module _ (db : Database) (h : Hall) (sound : IsSound db.schema db.trees) (spelt : SpellFirst db.trees h) where
  says_first : SaysSchema db (pos 1)
  says_first = record { reads = subst (λ s. IsQueryText s FIND_NUMBERS.now find_numbers_query) (sym (first_schema_of db h sound spelt)) find_numbers_is_first; last = (_, _, _, spelt.last) }

  has_first : HasTables First db.schema
  has_first = subst (HasTables First) (sym (first_schema_of db h sound spelt)) (all_compiled first_schema first_rows plain_first)

  has_no_wipes : is_used db.schema (codes "wipes") ≡ false
  has_no_wipes = ap (λ s. is_used s (codes "wipes")) (first_schema_of db h sound spelt) ∙ wipes_free

-- ---- what is answered

two_is_one : {X : Type 0} → pos 2 ≡ pos 1 → X
two_is_one e = absurd cc

-- tables that spell a hall are refused as Unavailable alone
second_alone : (db : Database) (h : Hall) (r : Result Migrated OpenFault) → IsSound db.schema db.trees → SpellHall db.trees h → TellsMigrated db r → IfErr r (λ e. e ≡ Unavailable)
second_alone db h (Ok done) sound spelt told = tt
second_alone db h (Err NotAHall) sound spelt (inl (inl told)) = two_is_one (told.told.0 (pos 2) (says_second db h sound spelt))
second_alone db h (Err NotAHall) sound spelt (inl (inr told)) = absurd (told.told.1 (says_second db h sound spelt) (has_second db h sound spelt))
second_alone db h (Err NotAHall) sound spelt (inr told) = two_is_one (one_schema db (pos 2) (pos 1) (says_second db h sound spelt) told.0.told.0)
second_alone db h (Err OtherVersion) sound spelt told = absurd (told.1.told.2 (sym (one_schema db (pos 2) told.1.told.0 (says_second db h sound spelt) told.1.told.1)))
second_alone db h (Err Unavailable) sound spelt told = refl

-- and so are those of the first schema
first_alone : (db : Database) (h : Hall) (r : Result Migrated OpenFault) → IsSound db.schema db.trees → SpellFirst db.trees h → TellsMigrated db r → IfErr r (λ e. e ≡ Unavailable)
first_alone db h (Ok done) sound spelt told = tt
first_alone db h (Err NotAHall) sound spelt (inl (inl told)) = absurd (told.told.1 (says_first db h sound spelt) (has_first db h sound spelt))
first_alone db h (Err NotAHall) sound spelt (inl (inr told)) = two_is_one (sym (told.told.0 (pos 1) (says_first db h sound spelt)))
first_alone db h (Err NotAHall) sound spelt (inr told) = absurd (true≢false (sym told.1 ∙ has_no_wipes db h sound spelt))
first_alone db h (Err OtherVersion) sound spelt told = absurd (told.0.told.2 (sym (one_schema db (pos 1) told.0.told.0 (says_first db h sound spelt) told.0.told.1)))
first_alone db h (Err Unavailable) sound spelt told = refl

pub refused_alone : (old : State) (h : Hall) (r : Result Migrated OpenFault) → IsLive old → IsTrue old.is_open → BecomeHall old.now.trees h → IsRightMigration old.now r → IfErr r (λ e. e ≡ Unavailable)
refused_alone old h r live here (inl spelt) told = second_alone old.now h r (live here).0 spelt told.told
refused_alone old h r live here (inr it) told = first_alone old.now it.0 r (live here).0 it.1 told.told

module _ (db now : Database) (same : now ≡ db) where
  -- the tables of the first schema weren't carried over, since a name is used that is to be made
  pub used_right : (e : OpenFault) → IsAnswerFor First db (Ok tt) → (e ≡ NotAHall → is_used now.schema (codes "wipes") ≡ true) → e ≢ OtherVersion → IsRightMigration db (Err e)
  used_right NotAHall told used other = record { told = inr (told, subst (λ (d : Database). is_used d.schema (codes "wipes") ≡ true) same (used refl)) }
  used_right OtherVersion told used other = absurd (other refl)
  used_right Unavailable told used other = record { told = tt }

  -- the tables aren't of the first schema, and the second was looked for
  pub second_right : (e : OpenFault) → IsAnswerFor First db (Err OtherVersion) → IsRightAnswer now (Err e) → IsRightMigration db (Err e)
  second_right NotAHall told more = record { told = inl (inr (subst (λ d. IsRightAnswer d (Err NotAHall)) same more)) }
  second_right OtherVersion told more = record { told = (told, subst (λ d. IsRightAnswer d (Err OtherVersion)) same more) }
  second_right Unavailable told more = record { told = tt }

-- a table is missing, or it couldn't be said
pub first_right : (db : Database) (e : OpenFault) → e ≢ OtherVersion → IsAnswerFor First db (Err e) → IsRightMigration db (Err e)
first_right db NotAHall other told = record { told = inl (inl told) }
first_right db OtherVersion other told = absurd (other refl)
first_right db Unavailable other told = record { told = tt }

-- ---- which halls they spell or become

module _ (old mid : State) (h : Hall) (live : IsLive old) (ready : IsReady old mid) where
  -- where they are of the first schema, it's one that another one becomes
  pub first_of : IsAnswerFor First old.now (Ok tt) → BecomeHall old.now.trees h → (g : Hall) × IsFirst mid.now g × IsCarriedOver g h
  first_of told (inl spelt) = two_is_one (one_schema old.now (pos 2) (pos 1) (says_second old.now h (live ready.was_open).0 spelt) told.told.0)
  first_of told (inr it) = (
    it.0,
    subst (λ (d : Database). IsFirst d it.0) (sym ready.same) (record { schema = first_schema_of old.now it.0 (live ready.was_open).0 it.1; spelt = it.1 }),
    it.2,
  )

  -- where they aren't, it's spelt
  pub second_of : IsAnswerFor First old.now (Err OtherVersion) → BecomeHall old.now.trees h → SpellHall mid.now.trees h
  second_of told (inl spelt) = subst (λ (d : Database). SpellHall d.trees h) (sym ready.same) spelt
  second_of told (inr it) = absurd (told.told.2 (sym (one_schema old.now (pos 1) told.told.0 (says_first old.now it.0 (live ready.was_open).0 it.1) told.told.1)))

-- ---- from call to call

-- what commits nothing adds nothing to what a stop leaves
pub left_same : {a b : State} (h : Hall) → Survives a b (λ _. ⊥) → HasCleanDisk b → MayLeaveBesides h a b
left_same h one clean db may = elim (one.crash clean db may) [ inl start ↦ inl start | inr none ↦ absurd none ]

pub made_after : {a b c : State} {Y Z E F : Type 0} {r : Result Y E} (s : Result Z F) (h : Hall) → Survives a b (λ _. ⊥) → HasCleanDisk b → IsMade b c r h → (OnOk r (IsHeld c h) → OnOk s (IsHeld c h)) → IsMade a c s h
made_after s h one clean made held = record {
  held = held made.held;
  crash = λ db may. elim (made.crash db may) [ inl before ↦ left_same h one clean db before | inr spelt ↦ inr spelt ];
}

-- what holds of each hall at Ok
pub on_each : {Y E : Type 0} (P Q : Hall → Type 0) (r : Result Y E) → ((h : Hall) → P h → OnOk r (Q h)) → OnOk r ((h : Hall) → P h → Q h)
on_each P Q (Ok y) each = each
on_each P Q (Err e) each = tt
