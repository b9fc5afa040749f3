-- The laws of the text piece by piece, and line by line; then examples, and that each answer is determined.
pub mod ByLine
pub mod Determined
pub mod Examples
pub mod Pieces
