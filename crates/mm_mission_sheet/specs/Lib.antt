pub mod Dates
pub mod Cells
pub mod Rows
pub mod Timelines
pub mod Sheets
pub mod Laws
