pub mod More
pub mod Worked
