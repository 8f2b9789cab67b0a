pub mod Building
pub mod Walking
pub mod Taking
pub mod Finding
pub mod Plain
pub mod Names
pub mod Parts
pub mod Versions
