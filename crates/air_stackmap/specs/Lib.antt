pub mod SiteCode
pub mod Described
pub mod Running
pub mod Laws
