pub mod Ages
pub mod AgesLaws
pub mod Answers
pub mod Markup
pub mod MarkupLaws
