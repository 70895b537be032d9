pub mod PrintLemmas
pub mod ReadingLemmas
pub mod WordLemmas
pub mod SpellingLemmas
pub mod UnderstoodLemmas
pub mod PurposeLemmas
