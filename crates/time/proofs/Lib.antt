-- The laws of windows, and that every answer is determined.
pub mod Windows
pub mod Determined
