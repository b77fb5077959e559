pub mod Snoc
pub mod Targets
pub mod Stacked
pub mod Laid
pub mod Counts
