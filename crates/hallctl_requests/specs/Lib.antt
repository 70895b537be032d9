pub mod Prelude
pub mod FieldLaws
pub mod HeadLaws
pub mod PartLaws
pub mod Request
pub mod RequestLaws
pub mod Response
pub mod ResponseLaws
