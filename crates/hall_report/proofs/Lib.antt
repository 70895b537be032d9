pub mod ExportLemmas
pub mod RecordLemmas
pub mod RowLemmas
pub mod TextLemmas
