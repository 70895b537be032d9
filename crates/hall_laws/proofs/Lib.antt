pub mod AnswerLemmas
pub mod KeepLemmas
pub mod SoundLemmas
pub mod BootRows
pub mod Commanded
mod Computing
pub mod Counts
mod Day
mod DayLaws
pub mod Deleted
pub mod Deploying
pub mod Effects
pub mod Enterings
pub mod Entries
pub mod Erasing
pub mod Frame
pub mod Images
pub mod Keys
pub mod MachineRows
pub mod NumbersOnceLemmas
pub mod OrderRows
pub mod OrderLemmas
pub mod OwnBoots
pub mod Receipts
pub mod Scripts
mod WrongDays
pub mod Erased
mod FirstDay
mod FirstDayLaws
pub mod FirstLaws
pub mod FirstRuns
pub mod FirstSteps
pub mod Forgetting
pub mod Later
pub mod MachineWrites
pub mod Plain
pub mod PlainScripts
pub mod PlainSteps
pub mod Sparing
pub mod Twins
pub mod Versions
