-- What follows for a packet that is turned away, and that every answer is determined.
pub mod Turning
pub mod Determined
