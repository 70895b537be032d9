pub mod HallLemmas
pub mod InterfaceLemmas
pub mod NameLemmas
pub mod WriteLemmas
