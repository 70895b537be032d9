pub mod Creating
pub mod Indexes
pub mod Migrating
pub mod Opening
pub mod OpeningLaws
pub mod Running
