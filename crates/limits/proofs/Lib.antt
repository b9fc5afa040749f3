-- The laws of the tests, and that each is determined.
pub mod Past
pub mod Determined
