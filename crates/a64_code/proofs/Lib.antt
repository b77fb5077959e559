pub mod Ops
pub mod Tests
pub mod Pushing
