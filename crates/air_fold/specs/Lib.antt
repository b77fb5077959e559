pub mod Values
pub mod Foldable
pub mod Indexed
pub mod Tallied
