pub mod Moved
pub mod New
pub mod Over
pub mod Passing
pub mod Plays
pub mod Results
pub mod Turned
pub mod Walked
