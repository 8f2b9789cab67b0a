pub mod StretchLosses
pub mod Exchange
pub mod Duality
pub mod PartSums
pub mod Counting
pub mod Prefixes
pub mod ShownFirsts
pub mod Exclusion
pub mod Helping
mod WorkedExamples
pub mod SameVerdict
pub mod Marking
pub mod Covered
