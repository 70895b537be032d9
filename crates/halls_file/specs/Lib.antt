pub mod Halls
pub mod Paths
