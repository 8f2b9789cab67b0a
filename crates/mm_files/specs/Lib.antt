pub mod Contents
pub mod Notes
pub mod Inputs
pub mod ReadFaults
pub mod Streams
pub mod Scripts
pub mod FileNames
