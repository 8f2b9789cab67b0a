pub mod EntryLemmas
pub mod LayoutLemmas
pub mod CountLemmas
pub mod RequestLemmas
pub mod OnlyLemmas
pub mod ReportLemmas
