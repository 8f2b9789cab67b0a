pub mod Rooms
pub mod Narrowed
pub mod Shared
pub mod Net
pub mod Laws
pub mod Used
