-- The laws of the walk over pairs, and that its answer is determined.
pub mod Walks
pub mod Pairs
pub mod Determined
