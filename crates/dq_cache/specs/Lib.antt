pub mod Clevers
pub mod Entries
pub mod Finds
pub mod Shelves
pub mod Stacks
