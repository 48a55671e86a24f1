pub mod Ascent
pub mod Made
pub mod Replacing
