pub mod Again
pub mod Remaining
pub mod Instruments
