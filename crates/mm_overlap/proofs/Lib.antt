pub mod Passes
pub mod Edged
pub mod Multiples
pub mod BetterLemmas
