pub mod Listed
pub mod Lengths
