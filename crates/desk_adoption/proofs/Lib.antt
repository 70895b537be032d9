pub mod AdoptionLemmas
