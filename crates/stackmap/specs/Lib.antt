pub mod Registers
pub mod Placing
pub mod Rules
pub mod PlacesObey
pub mod Obeys
pub mod Standing
pub mod World
