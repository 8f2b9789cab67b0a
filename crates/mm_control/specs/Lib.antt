pub use Rattle.mm_base.specs.SameRoutes
pub mod Fault
pub mod Routes
pub mod Laws
pub mod Routing
