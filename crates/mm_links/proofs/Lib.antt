pub mod Narrowing
pub mod Arcs
pub mod Shares
pub mod Needed
pub mod Serving
