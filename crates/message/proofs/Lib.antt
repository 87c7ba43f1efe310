-- The laws of the TLVs that we send.
pub mod Filled
