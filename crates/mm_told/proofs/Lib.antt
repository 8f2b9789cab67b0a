pub mod ReadBack
pub mod Rooms
pub mod Tables
pub mod Numbered
pub mod WordLengths
