pub mod Network
pub mod Layer
pub mod Delays
pub mod Ring
pub mod Rings
pub mod Moves
