-- Twins.
pub mod Twins
