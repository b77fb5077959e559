pub mod Spots
pub mod Index
pub mod Firsts
pub mod Faults
