pub mod Grouping
pub mod Inserted
pub mod KeysCover
pub mod KeysValid
pub mod SameKind
pub mod SameMeasure
