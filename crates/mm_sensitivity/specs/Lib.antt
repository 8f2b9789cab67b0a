pub mod Items
pub mod Worth
pub mod Table
pub mod Charts
