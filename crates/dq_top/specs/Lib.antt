pub mod Checking
pub mod Loading
pub mod Outcomes
pub mod Progress
pub mod Telling
pub mod Words
