pub mod NumberLemmas
pub mod TableLemmas
pub mod ItemLemmas
pub mod ListLemmas
pub mod Ranges
