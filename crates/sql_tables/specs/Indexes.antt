-- The three indexes of a hall that aren't those of keys.
use Rattle.sql_schema.specs.{Words.Schema, Described.{boots_index, interfaces_index, orders_index}}
use Rattle.sqlite_schema.specs.Names.{index_named}
use Rattle.sql_tables.specs.declared.indexes.Indexes.{Indexes}
use Rattle.std.specs.Prelude.{is_some, true}

-- which of them a schema has, by their names
abbrev pub indexes_of : Schema → Indexes
indexes_of schema = record {
  interfaces = is_some (index_named schema interfaces_index.name);
  boots = is_some (index_named schema boots_index.name);
  orders = is_some (index_named schema orders_index.name);
}

abbrev pub all_indexes : Indexes
all_indexes = record { interfaces = true; boots = true; orders = true }
