pub mod Needs
pub mod Frames
pub mod Placing
pub mod Targets
pub mod Marks
pub mod Counts
