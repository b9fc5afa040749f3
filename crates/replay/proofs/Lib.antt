-- Demand 3: the check is replay, faults 11 and 12 show in replay, and what a receiver sees.
pub mod Blocks
pub mod Replay
pub mod Fault
pub mod Passed
pub mod Receiver
pub mod OfModel
pub mod OfCheck
pub mod OfSearch
