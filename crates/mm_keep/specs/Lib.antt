pub mod Joining
pub mod Keeps
pub mod Printed
