pub mod FrameInputLemmas
pub mod FrameLemmas
pub mod ImportLemmas
pub mod RequestLemmas
