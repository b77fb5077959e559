mod Examples
pub mod Sets
pub mod Placed
pub mod PlacedApart
pub mod Children
pub mod Keeping
pub mod InOrder
