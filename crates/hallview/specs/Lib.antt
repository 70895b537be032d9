pub mod Due
pub mod Kept
pub mod Least
pub mod Slots
pub mod Taking
