pub mod Chunks
pub mod Left
pub mod Loads
pub mod Owners
pub mod Rows
pub mod Segments
pub mod Wholes
