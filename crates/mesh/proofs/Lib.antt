-- The laws of nodes and links.
pub mod Bounds
pub mod Determined
pub mod Numbers
pub mod Steps
