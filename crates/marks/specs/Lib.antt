-- The marks of the links of a path, and what byte each mark is.
pub mod Marks
pub mod Byte
