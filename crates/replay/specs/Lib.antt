-- Replay, what the theorems need of the packets, and what a receiver sees.
pub mod Replay
pub mod Sound
pub mod Receiver
pub mod Demand
