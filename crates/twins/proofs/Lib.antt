-- The laws of twins, and that the answer is determined.
pub mod Twinning
pub mod Determined
