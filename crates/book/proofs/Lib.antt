pub mod Members
pub mod Laws
pub mod First
pub mod Meeting
pub mod Kept
pub mod Few
pub mod Fairness
pub mod Only
