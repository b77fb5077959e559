pub mod Counting
pub mod Checking
