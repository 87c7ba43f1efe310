pub mod Fronts
pub mod Going
