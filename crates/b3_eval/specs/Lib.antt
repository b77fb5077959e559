pub mod Lookup
pub mod Stands
pub mod Signs
pub mod Writes
