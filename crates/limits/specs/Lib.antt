-- The tests of a model's numbers.
pub mod Limits
