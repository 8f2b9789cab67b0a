mod Words
mod Leaving
mod Moves
mod OneOrder
mod Courses
mod Working
mod Finding
mod Ordered
mod Settled
pub mod Unbroken
mod Halves
mod Leaves
