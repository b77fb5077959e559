pub mod RowFacts
pub mod Paths
pub mod Gathering
pub mod Visiting
pub mod Passing
pub mod Least
pub mod NamesOut
