-- The laws of text written into a buffer; then that what is written is determined.
pub mod Determined
pub mod Putting
