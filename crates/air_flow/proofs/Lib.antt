pub mod Among
pub mod Touching
pub mod Names
pub mod Lives
pub mod Kept
pub mod Apart
mod Examples
