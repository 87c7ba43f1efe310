-- The laws of upkeep.
pub mod KeepAlive
pub mod Leaving
pub mod Removal
pub mod Events
pub mod Choosing
pub mod Purging
