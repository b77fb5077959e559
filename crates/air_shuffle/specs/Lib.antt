pub mod Moves
pub mod Pending
pub mod Waiting
pub mod Sequenced
pub mod Following
