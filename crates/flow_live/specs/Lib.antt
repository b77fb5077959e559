pub mod Graph
pub mod Kept
pub mod Liveness
pub mod Solving
