pub mod Edges
pub mod Graph
pub mod Homes
pub mod Moves
pub mod Pages
pub mod Walk
