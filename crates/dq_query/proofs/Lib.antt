pub mod Again
pub mod Inserted
pub mod SameAnswer
