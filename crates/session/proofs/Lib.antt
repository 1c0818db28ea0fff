pub mod Checking
pub mod Balance
pub mod Dealing
pub mod Heads
