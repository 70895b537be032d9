pub mod Spans
pub mod Words
