-- The laws of places in a text and of the walk along a line; then that answers are determined.
pub mod Determined
pub mod Places
pub mod Recording
