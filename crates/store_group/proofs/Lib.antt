pub mod GroupLemmas
pub mod KeyLemmas
pub mod WriteLemmas
pub mod ReadLemmas
