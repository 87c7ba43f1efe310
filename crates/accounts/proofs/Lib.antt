-- The laws of payments and sums.
pub mod Sums
pub mod Paying
