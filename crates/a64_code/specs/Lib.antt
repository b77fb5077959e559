pub mod Places
pub mod Constants
pub mod Computing
pub mod Accesses
pub mod Fitting
