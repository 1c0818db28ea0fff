pub mod Order
pub mod Fill
pub mod Quote
pub mod Side
pub mod Matching
pub mod Fair
pub mod Book
pub mod TakeOrder
