pub mod CountLemmas
pub mod ExpiryLemmas
pub mod HeldLemmas
pub mod IndexLemmas
pub mod NewLemmas
pub mod SlotLemmas
pub mod TableLemmas
pub mod VersionLemmas
