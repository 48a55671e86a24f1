pub mod Journals
pub mod Sums
pub mod Books
pub mod TurnSteps
pub mod LaneSteps
pub mod Openings
pub mod Endings
