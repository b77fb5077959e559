pub mod Rewritten
pub mod Stays
