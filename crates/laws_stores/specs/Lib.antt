pub mod Prelude
pub mod Migrating
