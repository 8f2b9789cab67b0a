pub mod Room
pub mod Exact
pub mod Lost
