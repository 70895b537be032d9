pub mod ResponseLemmas
pub mod DecidedLemmas
pub mod ReadingLemmas
pub mod RouteLemmas
mod RouteRows
pub mod TargetLemmas
pub mod ShapeLemmas
