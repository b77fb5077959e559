pub mod Reversed
pub mod Lists
pub mod Names
pub mod Origins
pub mod Open
pub mod Walked
pub mod Leasts
