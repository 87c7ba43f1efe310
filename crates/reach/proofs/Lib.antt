pub mod Links
pub mod Fronts
pub mod Nodes
pub mod Nexts
pub mod Waves
pub mod Reaching
pub mod Digests
pub mod Listing
