pub mod BufferLemmas
pub mod ListLemmas
pub mod NumberLemmas
pub mod FoundLemmas
pub mod AgainLemmas
