-- The laws of beginning and resuming.
pub mod Parting
pub mod Starting
pub mod Resuming
