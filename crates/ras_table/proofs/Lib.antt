pub mod NamesLemmas
pub mod RowsLemmas
pub mod RecordsLemmas
pub mod NameTexts
pub mod RecordSizes
