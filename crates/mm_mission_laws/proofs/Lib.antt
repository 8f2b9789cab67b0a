pub mod Level
pub mod Split
pub mod Places
pub mod Kept
pub mod Sent
pub mod Shared
pub mod Duality
