pub mod Beginnings
pub mod Shows
