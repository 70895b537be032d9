pub mod PushLemmas
pub mod ReadingLemmas
