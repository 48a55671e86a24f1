pub mod Changed
pub mod Lanes
pub mod Seen
pub mod StillFits
pub mod Unseen
