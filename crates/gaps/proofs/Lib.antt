-- The laws of the sweep, and that the answer is determined.
pub mod Sweeping
pub mod Facing
pub mod Backing
pub mod Determined
