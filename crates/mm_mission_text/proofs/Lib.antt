pub mod AllIn
pub mod RecordRows
pub mod RowsLeft
pub mod TextTables
