pub mod Words
pub mod GiveLemmas
pub mod SpellingLemmas
pub mod CallLemmas
pub mod RequestLemmas
