pub mod Placeable
pub mod Foldable
