pub mod Updates
pub mod View
