-- The gaps among the placed packets.
pub mod Gaps
pub mod Sweeps
