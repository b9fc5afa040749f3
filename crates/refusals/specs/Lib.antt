-- The refusals of a model.
pub mod Refusals
