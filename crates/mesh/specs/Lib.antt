-- Nodes and links.
pub mod Node
pub mod Link
