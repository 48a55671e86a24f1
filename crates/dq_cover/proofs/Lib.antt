pub mod CoverLaws
pub mod Found
pub mod Fused
pub mod Marked
pub mod Remotes
