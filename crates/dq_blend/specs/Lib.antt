pub mod Exact
pub mod ExactOrder
pub mod Places
