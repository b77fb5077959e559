pub mod Compiled
pub mod Tried
pub mod Generating
pub mod Tool
