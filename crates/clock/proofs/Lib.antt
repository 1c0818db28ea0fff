pub mod Hands
pub mod Turns
