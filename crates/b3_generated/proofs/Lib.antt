pub mod Forms
pub mod Values
pub mod Rules
pub mod Valid
pub mod Texts
pub mod Names
pub mod Limits
pub mod Good
