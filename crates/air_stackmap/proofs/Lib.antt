pub mod Pushing
pub mod Listing
pub mod Expressed
pub mod Good
pub mod Weights
pub mod Running
pub mod Reading
pub mod Kept
