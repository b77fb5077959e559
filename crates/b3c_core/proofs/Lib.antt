pub mod Limits
pub mod Endings
pub mod Commands
pub mod Beginning
pub mod Evaluating
pub mod Completeness
pub mod Agreement
pub mod Malformed
