pub mod Dialled
pub mod Standing
