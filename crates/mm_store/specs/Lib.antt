pub use Rattle.mm_base.specs.Kind
pub use Rattle.mm_packet.specs.Packet
pub mod Fault
pub mod Content
pub mod Queue
pub mod Table
pub mod Any
pub mod Laws
