pub mod Row
pub mod Order
pub mod Groups
pub mod Payment
pub mod Kind
pub mod Answers
pub mod Tlvs
