-- The laws of Trickle, case by case.
pub mod Laws
