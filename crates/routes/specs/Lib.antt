-- Routes, how a path grows, and links in common.
pub mod Growing
pub mod Route
pub mod Share
