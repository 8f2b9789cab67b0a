pub mod Words
pub mod Values
pub mod Small
pub mod LossLists
pub mod OneText
