pub mod Exchange
pub mod Hearing
pub mod Try
