pub mod Joined
pub mod Told
pub mod ToldCells
pub mod ToldEntries
pub mod ToldNumbers
pub mod ToldResults
pub mod ToldWhole
pub mod ToldWords
