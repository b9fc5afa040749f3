-- The laws of the marks, and that every answer is determined.
pub mod Bytes
pub mod Marking
pub mod Determined
