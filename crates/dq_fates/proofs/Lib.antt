pub mod Bringing
pub mod Dialled
pub mod Ended
pub mod Fell
pub mod Gave
pub mod GoingOn
pub mod Rows
pub mod Takes
