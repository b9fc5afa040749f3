-- The state once a packet was turned away, and what that asks.
pub mod Settling
