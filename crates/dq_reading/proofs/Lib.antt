pub mod Quotes
pub mod Decimals
pub mod Fronts
pub mod Loops
pub mod Numerals
pub mod Parts
pub mod Readings
