pub mod IdFields
pub mod NumberFields
pub mod ReadingSteps
pub mod NumberLaws
pub mod NumberTexts
mod Places
mod LineLemmas
mod FileLines
pub mod Elements
pub mod Tests
pub mod Pairs
pub mod Ranges
pub mod Sums
pub mod RangeSums
pub mod Grids
pub mod Groups
