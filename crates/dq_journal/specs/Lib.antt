pub mod Journals
pub mod Right
pub mod Shown
pub mod Standing
