-- The model: its numbers, its packets, what the tests leave, and the answer.
pub mod Answers
pub mod Flows
pub mod Packets
pub mod Fair
