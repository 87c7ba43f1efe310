-- The laws of the snapshot: reading numbers, saving, loading.
pub mod Reading
pub mod Saving
pub mod Loading
