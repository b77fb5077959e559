pub mod Merging
pub mod Counting
pub mod Sets
pub mod RowSets
pub mod Listed
