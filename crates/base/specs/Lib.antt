pub mod Lists
pub mod Bytes
pub mod Memory
pub mod Sorted
pub mod Signed
