-- The placed packets in the way are those of the table; and that the answer is determined.
pub mod Bridging
pub mod Asking
pub mod Determined
