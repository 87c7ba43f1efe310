pub mod Decimal
pub mod Hexadecimal
pub mod Reading
pub mod Room
pub mod Words
