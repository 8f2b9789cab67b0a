pub mod Fault
pub use Rattle.mm_base.specs.NumberFields
pub mod Packet
pub mod Spelling
pub mod Headers
pub mod Reading
pub mod Laws
pub mod Buffer
