pub mod Prelude
pub mod Frame
pub mod FrameInput
pub mod Import
pub mod Report
pub mod Request
