pub mod Fails
pub mod Files
pub mod InMemory
pub mod Reads
pub mod Writes
