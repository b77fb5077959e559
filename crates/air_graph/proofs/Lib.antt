mod Triangle
pub mod Beside
pub mod Numbers
pub mod Adding
mod Pairs
mod Meeting
mod Walking
pub mod Paged
