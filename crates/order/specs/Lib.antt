pub mod Venue
pub mod Run
pub mod History
pub mod Law
pub mod Booking
pub mod Play
