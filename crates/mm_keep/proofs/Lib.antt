pub mod Joins
pub mod LaterCuts
pub mod KeptPlans
pub mod KeptSheets
pub mod KeptTexts
