-- The laws of the walk over packets, and that its answer is determined.
pub mod Times
pub mod Determined
