-- The placed packets in order of their start.
pub mod Kept
