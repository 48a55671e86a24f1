pub mod Folding
pub mod Placed
pub mod Sums
pub mod Tallies
