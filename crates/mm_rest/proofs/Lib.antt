pub mod Ranges
pub mod Csv
pub mod ForecastReads
pub mod Fronts
pub mod SetupReads
pub mod RestReads
pub mod Later
pub mod HaltReads
mod Resumes
mod HaltLimits
mod HaltFits
