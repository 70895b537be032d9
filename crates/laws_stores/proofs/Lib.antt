pub mod StopLemmas
mod MigratingLemmas
