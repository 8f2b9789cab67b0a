pub mod OrderLemmas
pub mod RouteLemmas
mod NamedLemmas
mod RunLemmas
