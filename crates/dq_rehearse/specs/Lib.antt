pub mod Dialled
pub mod Follows
pub mod Lanes
pub mod Turns
