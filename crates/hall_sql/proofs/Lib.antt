pub mod ApplyingLemmas
pub mod CountLemmas
pub mod ExpiryLemmas
pub mod GroupLemmas
pub mod MachineLemmas
pub mod RemovalLemmas
pub mod StoreLemmas
pub mod WriteLemmas
