pub mod Dials
pub mod Ends
pub mod GoingOn
pub mod Joins
