pub mod Batch
pub mod Line
