mod Words
pub mod Lives
pub mod Supplying
pub mod Offers
pub mod Adding
pub mod SoFar
pub mod Runs
pub mod Taking
pub mod Steps
pub mod Before
pub mod Memories
