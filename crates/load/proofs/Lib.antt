-- The laws of paths, and that the answer is determined.
pub mod Paths
pub mod Determined
