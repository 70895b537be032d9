pub mod Choice
pub mod ChoiceLaws
pub mod Dangers
pub mod DeskAnswer
pub mod Listings
pub mod Members
