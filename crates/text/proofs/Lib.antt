-- The laws of text.
pub mod Digits
pub mod Ends
pub mod Onward
pub mod Puts
pub mod Pairs
