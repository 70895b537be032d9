pub mod FamilyLemmas
pub mod ListLemmas
pub mod SearchLemmas
pub mod ValueLemmas
