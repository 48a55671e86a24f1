pub mod Fronted
pub mod Looked
pub mod Numbers
pub mod Rotated
pub mod Shelving
pub mod Stacked
pub mod Totals
pub mod Trimmed
