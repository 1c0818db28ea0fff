pub mod Pages
pub mod Writes
