pub mod Prelude
pub mod Adoption
pub mod Next
