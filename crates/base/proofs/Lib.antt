-- The laws, each in one place: tests, options, lists, bytes, lent memory, sorted lists, signed numbers, and the standard library's words.
pub mod Tests
pub mod Options
pub mod Lists
pub mod Bytes
pub mod Written
pub mod Sorted
pub mod Signed
pub mod Places
pub mod Marks
pub mod Library
