pub mod HallLemmas
pub mod PathLemmas
