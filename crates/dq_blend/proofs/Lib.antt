pub mod Agreeing
pub mod Entered
pub mod Steps
