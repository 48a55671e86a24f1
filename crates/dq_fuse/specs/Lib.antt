pub mod Gathered
pub mod KindLaws
pub mod Kinds
pub mod Shown
pub mod Covered
pub mod Valid
