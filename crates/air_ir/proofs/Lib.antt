pub mod Same
pub mod HomeLaws
pub mod Reading
pub mod Writing
pub mod Stepping
pub mod Copying
pub mod CopySteps
pub mod Junk
pub mod Meanings
pub mod Leaving
pub mod SameRuns
pub mod Pairs
pub mod Conditions
pub mod Weights
mod Examples
mod FormExamples
mod TableExamples
mod ExpressedExample
mod SiteExamples
