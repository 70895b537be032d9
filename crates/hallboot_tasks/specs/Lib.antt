pub mod RandomBlock
pub mod Served
