pub mod CommandLemmas
pub mod ItemLemmas
pub mod MachineLemmas
pub mod PlainLemmas
mod CommandRows
pub mod ReplyLemmas
mod ReplyRows
