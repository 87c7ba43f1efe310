-- The laws of the wire formats.
pub mod Rows
pub mod Ordering
pub mod Good
pub mod Varints
pub mod Folding
pub mod Payments
pub mod Encoded
pub mod Steps
