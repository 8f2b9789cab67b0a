pub mod ConversationLemmas
pub mod CountLemmas
pub mod DigitLemmas
pub mod HeaderLemmas
pub mod LineLemmas
pub mod ReadingLemmas
pub mod TelemetryLemmas
pub mod WordLemmas
mod SpaceLemmas
