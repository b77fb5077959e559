pub mod Gathered
pub mod Stepping
pub mod Typed
pub mod Written
pub mod Rows
pub mod Walks
