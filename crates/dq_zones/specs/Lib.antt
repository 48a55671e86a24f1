pub mod Answering
pub mod Brought
pub mod Numbering
