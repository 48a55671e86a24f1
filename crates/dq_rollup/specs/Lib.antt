pub mod Derived
pub mod Grouped
pub mod Keys
pub mod Pairs
pub mod Reading
pub mod Sources
