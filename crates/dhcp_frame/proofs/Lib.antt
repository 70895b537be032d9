pub mod AreaLemmas
pub mod OverloadLemmas
pub mod ValueLemmas
pub mod FrameLemmas
pub mod ReplyLemmas
