pub mod Words
pub mod Telling
pub mod Owning
pub mod Serving
pub mod Showing
pub mod Fields
pub mod Losses
pub mod Laws
