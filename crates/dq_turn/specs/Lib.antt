pub mod Made
pub mod Views
pub mod Turning
pub mod Steps
pub mod Seen
