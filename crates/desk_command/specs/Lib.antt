pub mod Prelude
pub mod AllowedLaws
pub mod Causes
pub mod Command
pub mod DecisionLaws
pub mod Effect
pub mod Client
pub mod Look
