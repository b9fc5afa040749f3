-- The model as arrays.
pub mod Arrays
