pub mod Offered
pub mod Planned
pub mod Routes
pub mod Counting
pub mod Dealt
pub mod NotTaken
pub mod Scripts
