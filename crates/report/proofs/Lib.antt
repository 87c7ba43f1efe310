-- The laws of the report.
pub mod Puts
pub mod Lines
pub mod Adding
pub mod Few
pub mod Marking
pub mod Printing
pub mod Sampled
pub mod Cutting
