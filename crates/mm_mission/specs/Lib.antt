pub mod Fault
pub mod Mission
pub mod Flows
pub mod Edges
pub mod Planned
pub mod Packets
pub mod Timeline
pub mod Laws
