pub mod Temporaries
pub mod Returning
pub mod Selected
pub mod Contract
pub mod Sited
