pub mod Datagram
pub mod Passed
pub mod Told
