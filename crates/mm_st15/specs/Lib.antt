pub mod Fault
pub mod Layout
pub mod Counted
pub mod RequestKind
pub mod Request
pub mod ReportKind
pub mod Report
pub mod Laws
