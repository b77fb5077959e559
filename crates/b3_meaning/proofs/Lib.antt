pub mod Examples
pub mod Foldables
pub mod Keeping
