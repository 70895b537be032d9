pub mod Prelude
pub mod Columns
pub mod Export
pub mod Fault
pub mod Import
pub mod Lines
pub mod Values
