pub mod Table
pub mod Types
pub mod Fits
pub mod Procedure
pub mod Naming
pub mod Layout
pub mod Lending
pub mod Names
