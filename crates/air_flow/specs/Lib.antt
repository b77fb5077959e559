pub mod Flow
pub mod Living
pub mod Interfere
pub mod Proper
