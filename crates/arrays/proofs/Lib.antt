-- The arrays that hold the flows and the packets of a model, and that the answer is determined.
pub mod Entries
pub mod Filling
pub mod Building
pub mod Reading
pub mod Determined
