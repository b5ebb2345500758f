pub mod EndingLemmas
pub mod Examples
pub mod LineLemmas
pub mod ReportLemmas
pub mod RowLemmas
pub mod TableLemmas
pub mod WritingLemmas
