-- The laws of the check, and that its answer is determined.
pub mod Cases
pub mod Determined
