-- The marked examples.
pub mod Examples
