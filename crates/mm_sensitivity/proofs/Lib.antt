pub mod Listing
pub mod Growing
pub mod Found
