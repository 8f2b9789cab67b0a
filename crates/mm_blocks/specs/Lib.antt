pub mod Check
pub mod Block
pub mod Layout
pub mod Blocks
pub mod Laws
