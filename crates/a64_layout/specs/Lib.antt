pub mod Branch
pub mod Layout
pub mod Text
pub mod Passes
pub mod Checked
pub mod Run
pub mod Machine
