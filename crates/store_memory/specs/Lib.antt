pub mod Prelude
pub mod Counted
pub mod Expiry
pub mod Hashed
pub mod Held
pub mod Table
