pub mod Shown
pub mod Lines
pub mod Trials
pub mod Told
pub mod Generated
