-- The walk over the packets for a time out of range.
pub mod Ranges
