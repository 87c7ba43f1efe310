-- The laws of the node's state.
pub mod Contacts
pub mod Parts
pub mod Own
pub mod Moves
pub mod Editing
pub mod Settling
pub mod Peerings
pub mod Stripping
