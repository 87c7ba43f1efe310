pub mod Report
pub mod Steps
pub mod Sample
pub mod Reading
