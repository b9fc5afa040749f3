-- Placing one packet; the packets as the code has them in arrays, and placing one as the code does it.
pub mod Placing
pub mod Held
pub mod Traffic
