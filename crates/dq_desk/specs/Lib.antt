pub mod Admissions
pub mod Events
pub mod Handed
pub mod Kept
pub mod Links
pub mod Plans
pub mod Roomed
pub mod Waits
