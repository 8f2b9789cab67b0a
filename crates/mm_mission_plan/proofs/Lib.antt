pub mod Stages
pub mod Searched
pub mod Named
pub mod ProblemTexts
pub mod Shown
