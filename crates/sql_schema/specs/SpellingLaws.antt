-- Laws of the spelling of a hall, for the proofs of callers: one table that changes, while the others stay.
use Rattle.sql_schema.specs.{Prelude.{all-slice_get, AllByRecursion, nat_tests, Row, Database, Table}, Statements.SetsRows, Described.{TableName, of_last, described, each_stores, with_tree, hall_schema}, HallRows.HallRows, Spelling.Spells}
use Rattle.std.proofs.Common.{◌≡◌, ◌≢◌, ◌==◌, Bool, true, false, cond, List, Some, slice_get, refl, sym, ap, subst, ◌∙◌, arith}

-- each table is in its place of the schema
there : (t : TableName) → slice_get hall_schema.tables (described t).place ≡ Some (described t).table
there of_last = refl
there t = refl

-- what every table of the schema has
pub at_table : (P : Table → Type 0) → AllByRecursion P hall_schema.tables → (t : TableName) → P (described t).table
at_table P all t = all-slice_get P hall_schema.tables _ _ (there t) all

module _ (t : TableName) (old new : Database) (c : HallRows) (spells : Spells old c) (stored : List Row) (x : (described t).Held) where
  abbrev now : HallRows
  now = (described t).with_held c x

  -- if one table stores what it is to hold, and the others store what they did, the tables spell a hall with that
  pub sets : SetsRows hall_schema (described t).table.tree old new stored → (described t).stores stored x → Spells new now
  sets set holds = record {
    schema = set.same_schema;
    tables = record {
      sound = set.sound;
      schema = same_schema t x ∙ spells.tables.schema;
      each = λ u. subst (λ rows. (described u).stores rows ((described u).held now)) (rows_of u) (each_stores t u old.trees c spells.tables.each stored x holds);
    };
  }
    where
      same_schema : (t : TableName) (x : (described t).Held) → ((described t).with_held c x).hall.schema ≡ c.hall.schema
      same_schema of_last x = refl
      same_schema t x = refl

      rows_of : (u : TableName) → with_tree (described t).table.tree stored old.trees (described u).table.tree ≡ new.trees (described u).table.tree
      rows_of u = go ((described u).table.tree == (described t).table.tree) refl
        where
          go : (b : Bool) → ((described u).table.tree == (described t).table.tree) ≡ b → cond b stored (old.trees (described u).table.tree) ≡ new.trees (described u).table.tree
          go true e = let same : (described u).table.tree ≡ (described t).table.tree = grind (arith, nat_tests) in sym (ap new.trees same ∙ set.table)
          go false e = sym (at_table (λ (a : Table). a.tree ≢ (described t).table.tree → new.trees a.tree ≡ old.trees a.tree) set.others u (grind (arith, nat_tests)))
