-- The theorem of the marked examples.
pub mod Marked
