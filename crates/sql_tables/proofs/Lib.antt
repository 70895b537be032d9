mod TransactionLemmas
mod MakingLemmas
mod LookLemmas
mod OpenLemmas
mod CarryingLemmas
mod CarriedLemmas
mod MigratingLemmas
