pub mod Arriving
pub mod Finished
pub mod Found
pub mod Marked
pub mod Ranked
pub mod Sorting
