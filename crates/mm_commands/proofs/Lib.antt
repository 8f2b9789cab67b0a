mod Printing
mod Refusals
mod Codes
mod Flying
pub mod Leading
mod Words
mod Answering
mod Beside
mod Missions
