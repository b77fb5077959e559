pub mod Example
pub mod Steps
mod Worlds
pub mod Taking
pub mod Slots
pub mod Named
pub mod Started
pub mod Sites
pub mod Left
pub mod Unchanged
pub mod Gathered
pub mod Stepping
pub mod Sample
pub mod Ended
