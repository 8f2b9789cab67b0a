pub mod Words
pub mod Rule
pub mod Views
pub mod Steps
pub mod Stores
