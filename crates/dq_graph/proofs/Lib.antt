pub mod Sources
pub mod Walking
