pub mod DateLemmas
pub mod CellLemmas
pub mod SheetLemmas
pub mod FlownLemmas
pub mod LawLemmas
