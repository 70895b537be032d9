pub mod DecisionLemmas
pub mod MoveLemmas
pub mod NewHallLemmas
pub mod PromiseLemmas
pub mod StepLemmas
pub mod WorkedRows
