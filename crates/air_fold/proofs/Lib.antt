pub mod Listed
pub mod Masks
pub mod Places
pub mod Tallies
pub mod Walks
