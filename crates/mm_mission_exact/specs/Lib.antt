pub mod Each
pub mod Windows
pub mod Rates
pub mod Stores
pub mod Passes
pub mod Observations
pub mod Exact
pub mod Laws
