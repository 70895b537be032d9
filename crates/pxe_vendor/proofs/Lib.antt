pub mod AnswerLemmas
pub mod ArchLemmas
pub mod ClientLemmas
pub mod FileLemmas
pub mod ValuesLemmas
pub mod DigitLemmas
pub mod MacLemmas
