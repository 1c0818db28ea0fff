pub mod Order
pub mod Keys
pub mod Heaps
pub mod Contents
pub mod Calls
