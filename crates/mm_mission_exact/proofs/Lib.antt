pub mod EachRows
pub mod RateLemmas
