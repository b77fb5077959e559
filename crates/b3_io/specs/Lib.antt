pub mod Faults
pub mod Taken
pub mod VecSink
pub mod Script
pub mod ScriptStreams
