pub mod Parsing
pub mod Reading
pub mod Said
pub mod Sizes
pub mod Statements
