pub mod Hands
pub mod Readings
pub mod StopClock
pub mod Turns
