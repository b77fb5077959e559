mod Examples
pub mod Loops
pub mod FixedApart
pub mod WordsApart
pub mod LeastOfSites
