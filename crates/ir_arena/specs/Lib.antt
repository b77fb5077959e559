pub mod Block
pub mod BlockLends
pub mod Chains
pub mod ChunkLends
pub mod Layout
pub mod Lends
pub mod NodeLends
pub mod NodesLends
