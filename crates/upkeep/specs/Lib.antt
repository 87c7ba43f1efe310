pub mod Ticked
pub mod Choice
