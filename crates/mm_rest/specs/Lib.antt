pub mod Forecasts
pub mod Documents
pub mod Rests
pub mod Halts
pub mod Laws
pub mod HaltLaws
